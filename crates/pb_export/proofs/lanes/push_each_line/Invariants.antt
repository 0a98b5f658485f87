-- What was appended so far, and what follows.
use Rattle.std.proofs.Common.{◌≡◌, ◌++◌, ◌-◌}
use Rattle.pb_export.specs.Lanes.{lines_from}
use Rattle.pb_export.proofs.lanes.push_each_line.Given as goal

abbrev pub invariant-loop-lane : goal.invariant-loop-lane
invariant-loop-lane l =
    l.text.items ++ lines_from l.sheet l.lane (l.sheet.lanes - l.lane) ≡ l.initial.text.items ++ lines_from l.sheet 0 l.sheet.lanes
