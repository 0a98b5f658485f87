use Rattle.law_monitor.proofs.anywhere.NoneRaised.{none_of_legality, broken_of_legality}
use Rattle.law_monitor.proofs.runs.runs_raise_no_alarm_of_legality.Goals as goal

pub returns-clause-none : goal.returns-clause-none
returns-clause-none c = none_of_legality

pub returns-clause-broken : goal.returns-clause-broken
returns-clause-broken c = broken_of_legality
