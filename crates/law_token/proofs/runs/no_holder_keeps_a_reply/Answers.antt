use Rattle.law_token.proofs.whole.Sensing.{silent_in_runs}
use Rattle.law_token.proofs.runs.no_holder_keeps_a_reply.Goals as goal

pub returns : goal.returns
returns c = silent_in_runs
