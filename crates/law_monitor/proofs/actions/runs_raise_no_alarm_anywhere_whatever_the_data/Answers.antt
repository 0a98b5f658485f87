use Rattle.law_monitor.proofs.anywhere.NoneRaised.{raises_none_anywhere_by, broken_premise_by}
use Rattle.law_monitor.proofs.actions.runs_raise_no_alarm_anywhere_whatever_the_data.Goals as goal

pub returns-clause-none : goal.returns-clause-none
returns-clause-none c = raises_none_anywhere_by

pub returns-clause-broken : goal.returns-clause-broken
returns-clause-broken c = broken_premise_by
