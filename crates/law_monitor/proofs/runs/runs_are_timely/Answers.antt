use Rattle.law_monitor.proofs.timely.Runs.{runs_are_timely}
use Rattle.law_monitor.proofs.runs.runs_are_timely.Goals as goal

pub returns : goal.returns
returns c = runs_are_timely
