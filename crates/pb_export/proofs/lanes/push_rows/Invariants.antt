-- What was appended so far, and what follows.
use Rattle.std.proofs.Common.{◌≡◌, ◌++◌, ◌-◌}
use Rattle.pb_export.specs.Places.{rows}
use Rattle.pb_export.specs.Lanes.{rows_from}
use Rattle.pb_export.proofs.lanes.push_rows.Given as goal

abbrev pub invariant-loop-strip : goal.invariant-loop-strip
invariant-loop-strip l =
    l.text.items ++ rows_from l.scenario l.sheet l.taps l.strip (rows l.sheet - l.strip) ≡ l.initial.text.items ++ rows_from l.scenario l.sheet l.taps 0 (rows l.sheet)
