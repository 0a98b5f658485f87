use Rattle.std.proofs.Common.{length}
use Rattle.pb_monitor.proofs.monitors.Monitor.cut_all.Given as goal

abbrev pub decreases-loop-burst : goal.decreases-loop-burst
decreases-loop-burst l = length l.self.cutter
