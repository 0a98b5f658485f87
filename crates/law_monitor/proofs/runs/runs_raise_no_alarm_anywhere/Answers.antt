use Rattle.law_monitor.proofs.anywhere.NoneRaised.{raises_none_anywhere, broken_premise}
use Rattle.law_monitor.proofs.anywhere.Uniform.{uniform_anywhere}
use Rattle.law_monitor.proofs.runs.runs_raise_no_alarm_anywhere.Goals as goal

pub returns-clause-same : goal.returns-clause-same
returns-clause-same c = uniform_anywhere

pub returns-clause-none : goal.returns-clause-none
returns-clause-none c = raises_none_anywhere

pub returns-clause-broken : goal.returns-clause-broken
returns-clause-broken c = broken_premise
