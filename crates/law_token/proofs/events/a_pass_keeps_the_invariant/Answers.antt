use Rattle.law_token.proofs.pass.WholePass.{pass_invariant}
use Rattle.law_token.proofs.events.a_pass_keeps_the_invariant.Goals as goal

pub returns : goal.returns
returns c = pass_invariant
