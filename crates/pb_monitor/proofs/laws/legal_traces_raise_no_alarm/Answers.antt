use Rattle.pb_monitor.proofs.NoneRaised.{legal_raises_none}
use Rattle.pb_monitor.proofs.laws.legal_traces_raise_no_alarm.Goals as goal

pub returns : goal.returns
returns c = λ p slack classes specs trace since bs short sources order legal heard. legal_raises_none p slack classes specs since trace bs short order sources legal heard
