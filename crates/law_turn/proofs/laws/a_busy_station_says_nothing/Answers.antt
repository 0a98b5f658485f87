use Rattle.law_turn.proofs.Busy.{silent-started, silent-turn_of, silent-busy, silent-stopped, silent-pushed}
use Rattle.law_turn.proofs.laws.a_busy_station_says_nothing.Goals as goal

pub returns-clause-started : goal.returns-clause-started
returns-clause-started c = silent-started

pub returns-clause-turn : goal.returns-clause-turn
returns-clause-turn c = silent-turn_of

pub returns-clause-silent : goal.returns-clause-silent
returns-clause-silent c = silent-busy

pub returns-clause-stopped : goal.returns-clause-stopped
returns-clause-stopped c = silent-stopped

pub returns-clause-pushed : goal.returns-clause-pushed
returns-clause-pushed c = silent-pushed
