use Rattle.law_monitor.proofs.anywhere.NoneRaised.{raise_none_by}
use Rattle.law_monitor.proofs.actions.runs_raise_no_alarm_whatever_the_data.Goals as goal

pub returns : goal.returns
returns c = raise_none_by
