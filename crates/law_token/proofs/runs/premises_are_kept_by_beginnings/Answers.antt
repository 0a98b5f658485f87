use Rattle.law_token.proofs.whole.JoinedRuns.{unbroken_before}
use Rattle.law_token.proofs.runs.premises_are_kept_by_beginnings.Goals as goal

pub returns : goal.returns
returns c = unbroken_before
