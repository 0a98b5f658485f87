use Rattle.law_runs.proofs.OnTheBus.{run-is-history-of}
use Rattle.law_runs.proofs.laws.a_run_is_a_history_in_instants.Goals as goal

pub returns : goal.returns
returns c = run-is-history-of
