-- What was appended so far, and what follows.
use Rattle.std.proofs.Common.{◌≡◌, ◌++◌, ◌-◌}
use Rattle.pb_export.specs.Lanes.{marks_from}
use Rattle.pb_export.proofs.lanes.push_marks.Given as goal

abbrev pub invariant-loop-step : goal.invariant-loop-step
invariant-loop-step l =
    l.text.items ++ marks_from l.sheet l.strip l.step (5 - l.step) ≡ l.initial.text.items ++ marks_from l.sheet l.strip 0 5
