use Rattle.law_token.proofs.air.Request.{queue_invariant}
use Rattle.law_token.proofs.events.a_request_keeps_the_invariant.Goals as goal

pub returns : goal.returns
returns c = queue_invariant
