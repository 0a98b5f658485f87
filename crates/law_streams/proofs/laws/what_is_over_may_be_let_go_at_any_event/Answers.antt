use Rattle.law_streams.proofs.PastStays.{past-stays}
use Rattle.law_streams.proofs.PastSteps.{step-behind}
use Rattle.law_streams.proofs.laws.what_is_over_may_be_let_go_at_any_event.Goals as goal

pub returns-clause-same : goal.returns-clause-same
returns-clause-same c = step-behind

pub returns-clause-stays : goal.returns-clause-stays
returns-clause-stays c = past-stays
