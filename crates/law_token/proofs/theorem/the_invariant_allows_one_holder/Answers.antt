use Rattle.law_token.proofs.whole.Induction.{holds_once}
use Rattle.law_token.proofs.theorem.the_invariant_allows_one_holder.Goals as goal

pub returns : goal.returns
returns c = holds_once
