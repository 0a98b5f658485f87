use Rattle.law_token.proofs.whole.Readers.{one_token}
use Rattle.law_token.proofs.theorem.a_run_leaves_one_token.Goals as goal

pub returns : goal.returns
returns c = one_token
