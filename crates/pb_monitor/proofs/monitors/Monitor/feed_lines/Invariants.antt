use Rattle.std.proofs.Common.{length}
use Rattle.pb_monitor.proofs.monitors.Monitor.feed_lines.Given as goal

abbrev pub decreases-loop-left : goal.decreases-loop-left
decreases-loop-left l = length l.left
