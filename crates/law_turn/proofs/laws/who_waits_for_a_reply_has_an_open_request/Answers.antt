use Rattle.law_turn.proofs.Retrying.{left-started, left-turn_of, left-settled}
use Rattle.law_turn.proofs.laws.who_waits_for_a_reply_has_an_open_request.Goals as goal

pub returns-clause-started : goal.returns-clause-started
returns-clause-started c = left-started

pub returns-clause-turn : goal.returns-clause-turn
returns-clause-turn c = left-turn_of

pub returns-clause-settled : goal.returns-clause-settled
returns-clause-settled c = left-settled

pub returns-clause-stopped : goal.returns-clause-stopped
returns-clause-stopped c s = tt

pub returns-clause-pushed : goal.returns-clause-pushed
returns-clause-pushed c s r has = has
