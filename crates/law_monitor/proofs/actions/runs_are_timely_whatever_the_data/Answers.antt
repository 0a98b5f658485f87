use Rattle.law_monitor.proofs.timely.Runs.{timely_by}
use Rattle.law_monitor.proofs.actions.runs_are_timely_whatever_the_data.Goals as goal

pub returns : goal.returns
returns c = timely_by
