use Rattle.law_turn.proofs.Moments.{turn_of-nothing_due}
use Rattle.law_turn.proofs.laws.nothing_due_changes_nothing.Goals as goal

pub returns : goal.returns
returns c = turn_of-nothing_due
