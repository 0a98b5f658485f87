use Rattle.law_token.proofs.replies.Kept.{data_invariant}
use Rattle.law_token.proofs.actions.a_change_of_data_keeps_the_invariant.Goals as goal

pub returns : goal.returns
returns c = data_invariant
