-- What was appended so far, and what follows.
use Rattle.std.proofs.Common.{◌≡◌, ◌++◌, drop}
use Rattle.pb_export.specs.Vcd.{line_variables}
use Rattle.pb_export.proofs.vcd.push_lines.Given as goal

abbrev pub invariant-loop-tap : goal.invariant-loop-tap
invariant-loop-tap l =
    l.text.items ++ line_variables l.tap (drop l.tap l.scenario.names) ≡ l.initial.text.items ++ line_variables 0 l.scenario.names
