use Rattle.law_turn.proofs.Moments.{later-turn_of}
use Rattle.law_turn.proofs.laws.a_turn_leaves_the_due_later.Goals as goal

pub returns : goal.returns
returns c = later-turn_of
