use Rattle.pb_monitor.specs.Judge.{listening}
use Rattle.std.proofs.Common.{None}
use Rattle.pb_monitor.proofs.NoneRaised.{all_legal}
use Rattle.pb_monitor.proofs.InOrder.{in_order}
use Rattle.pb_monitor.proofs.laws.legal_orders_are_right.Goals as goal

pub returns : goal.returns
returns c = λ p specs trace since bs short sources order legal heard. in_order p 0 since (listening since) None bs tt (all_legal p 0 specs since trace bs short order sources legal heard)
