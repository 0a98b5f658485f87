-- What was appended so far, and what follows.
use Rattle.std.proofs.Common.{◌≡◌, ◌++◌, ◌-◌}
use Rattle.pb_export.specs.Vcd.{idle_lines}
use Rattle.pb_export.proofs.vcd.push_idle_lines.Given as goal

abbrev pub invariant-loop-tap : goal.invariant-loop-tap
invariant-loop-tap l =
    l.text.items ++ idle_lines l.tap (l.taps - l.tap) ≡ l.initial.text.items ++ idle_lines 0 l.taps
