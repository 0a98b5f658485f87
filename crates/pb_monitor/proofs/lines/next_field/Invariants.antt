use Rattle.std.proofs.Common.{◌≤◌, ◌-◌, length}
use Rattle.pb_monitor.proofs.lines.next_field.Given as goal

abbrev pub invariant-loop-place : goal.invariant-loop-place
invariant-loop-place l = l.place ≤ length l.line

abbrev pub decreases-loop-place : goal.decreases-loop-place
decreases-loop-place l = length l.line - l.place

abbrev pub invariant-loop-place-2 : goal.invariant-loop-place-2
invariant-loop-place-2 l = (l.first ≤ l.place) × (l.place ≤ length l.line)

abbrev pub decreases-loop-place-2 : goal.decreases-loop-place-2
decreases-loop-place-2 l = length l.line - l.place
