use Rattle.law_monitor.proofs.anywhere.NoneRaised.{timely_raise_none, runs_raise_none}
use Rattle.law_monitor.proofs.runs.runs_raise_no_alarm.Goals as goal

pub returns-clause-trace : goal.returns-clause-trace
returns-clause-trace c = timely_raise_none

pub returns-clause-run : goal.returns-clause-run
returns-clause-run c = runs_raise_none
