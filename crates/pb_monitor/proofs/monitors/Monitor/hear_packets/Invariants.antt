use Rattle.std.proofs.Common.{◌≤◌, length}
use Rattle.pb_monitor.proofs.monitors.Monitor.hear_packets.Given as goal

abbrev pub invariant-loop-whole : goal.invariant-loop-whole
invariant-loop-whole l = length l.left ≤ length l.octets

abbrev pub decreases-loop-whole : goal.decreases-loop-whole
decreases-loop-whole l = length l.left
