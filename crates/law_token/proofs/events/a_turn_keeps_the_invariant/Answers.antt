use Rattle.law_token.proofs.turn.WholeTurn.{turn_invariant}
use Rattle.law_token.proofs.events.a_turn_keeps_the_invariant.Goals as goal

pub returns : goal.returns
returns c = turn_invariant
