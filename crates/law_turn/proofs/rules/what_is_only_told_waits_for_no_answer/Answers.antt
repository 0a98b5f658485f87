use Rattle.law_turn.proofs.Requesting.{told-on}
use Rattle.law_turn.proofs.rules.what_is_only_told_waits_for_no_answer.Goals as goal

pub returns : goal.returns
returns c = told-on
