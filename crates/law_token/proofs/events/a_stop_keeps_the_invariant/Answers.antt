use Rattle.law_token.proofs.air.Stop.{stop_invariant}
use Rattle.law_token.proofs.events.a_stop_keeps_the_invariant.Goals as goal

pub returns : goal.returns
returns c = stop_invariant
