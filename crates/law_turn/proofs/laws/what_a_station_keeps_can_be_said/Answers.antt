use Rattle.law_turn.proofs.Initiating.{reply-turn_of}
use Rattle.law_turn.proofs.Keeping.{cycles-new, cycles-started, cycles-pushed}
use Rattle.law_turn.proofs.laws.what_a_station_keeps_can_be_said.Goals as goal

pub returns-clause-new : goal.returns-clause-new
returns-clause-new c = cycles-new

pub returns-clause-started : goal.returns-clause-started
returns-clause-started c = cycles-started

pub returns-clause-turn : goal.returns-clause-turn
returns-clause-turn c p s marks now reply cycles = (reply-turn_of p s marks now (reply, cycles)).1

pub returns-clause-stopped : goal.returns-clause-stopped
returns-clause-stopped c s has = has

pub returns-clause-pushed : goal.returns-clause-pushed
returns-clause-pushed c = cycles-pushed
