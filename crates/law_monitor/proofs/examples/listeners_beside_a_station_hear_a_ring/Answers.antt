use Rattle.law_monitor.proofs.Captured.{heard_beside}
use Rattle.law_monitor.proofs.examples.listeners_beside_a_station_hear_a_ring.Goals as goal

pub returns : goal.returns
returns c = heard_beside
