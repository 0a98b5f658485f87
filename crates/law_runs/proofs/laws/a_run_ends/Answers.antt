use Rattle.law_runs.proofs.OnTheBus.{the-run-ends}
use Rattle.law_runs.proofs.laws.a_run_ends.Goals as goal

pub returns : goal.returns
returns c = the-run-ends
