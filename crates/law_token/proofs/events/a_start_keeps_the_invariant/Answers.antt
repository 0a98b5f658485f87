use Rattle.law_token.proofs.air.Start.{start_invariant}
use Rattle.law_token.proofs.events.a_start_keeps_the_invariant.Goals as goal

pub returns : goal.returns
returns c = start_invariant
