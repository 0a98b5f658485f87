use Rattle.std.proofs.Common.{◌≡◌, ◌<◌, [], length}
use Rattle.pb_monitor.proofs.monitors.Monitor.cut_octets.Given as goal

abbrev pub invariant-loop-left : goal.invariant-loop-left
invariant-loop-left l = 0 < length l.left → l.self.cutter ≡ []

abbrev pub decreases-loop-left : goal.decreases-loop-left
decreases-loop-left l = length l.left
