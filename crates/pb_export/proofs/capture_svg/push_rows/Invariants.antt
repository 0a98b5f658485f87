-- What was appended so far, and what follows.
use Rattle.std.proofs.Common.{◌≡◌, ◌++◌, ◌-◌}
use Rattle.pb_export.specs.Places.{rows}
use Rattle.pb_export.specs.CaptureSvg.{rows_from}
use Rattle.pb_export.proofs.capture_svg.push_rows.Given as goal

abbrev pub invariant-loop-strip : goal.invariant-loop-strip
invariant-loop-strip l =
    l.text.items ++ rows_from l.sheet l.lanes l.strip (rows l.sheet - l.strip) ≡ l.initial.text.items ++ rows_from l.sheet l.lanes 0 (rows l.sheet)
