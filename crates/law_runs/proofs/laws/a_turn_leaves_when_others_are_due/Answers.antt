use Rattle.law_runs.proofs.OnTheBus.{turns-leave-others}
use Rattle.law_runs.proofs.laws.a_turn_leaves_when_others_are_due.Goals as goal

pub returns : goal.returns
returns c = turns-leave-others
