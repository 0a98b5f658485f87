use Rattle.law_runs.proofs.OnTheBus.{history-is-run}
use Rattle.law_runs.proofs.laws.a_history_in_instants_is_the_run.Goals as goal

pub returns : goal.returns
returns c = history-is-run
