use Rattle.law_token.proofs.whole.JoinedRuns.{runs_same}
use Rattle.law_token.proofs.runs.a_run_keeps_its_bus.Goals as goal

pub returns : goal.returns
returns c = λ w next events runs. runs_same events w next runs
