use Rattle.law_turn.proofs.Moments.{turn_of-due, turn_of-not_due}
use Rattle.law_turn.proofs.Saying.{phase_says-some}
use Rattle.law_turn.proofs.laws.a_station_that_is_due_speaks.Goals as goal

pub returns-clause-due : goal.returns-clause-due
returns-clause-due c = turn_of-due

pub returns-clause-speaks : goal.returns-clause-speaks
returns-clause-speaks c = phase_says-some

pub returns-clause-not_due : goal.returns-clause-not_due
returns-clause-not_due c = turn_of-not_due
