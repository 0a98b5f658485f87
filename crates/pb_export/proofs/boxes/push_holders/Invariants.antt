-- What was appended so far, and what follows.
use Rattle.std.proofs.Common.{◌≡◌, ◌++◌, ◌-◌}
use Rattle.pb_export.specs.Places.{strip}
use Rattle.pb_export.specs.Boxes.{holders_from}
use Rattle.pb_export.proofs.boxes.push_holders.Given as goal

abbrev pub invariant-loop-strip : goal.invariant-loop-strip
invariant-loop-strip l =
    l.text.items ++ holders_from l.sheet l.stretch l.holder l.strip (l.rows - l.strip)
    ≡ l.initial.text.items ++ holders_from l.sheet l.stretch l.holder (strip l.sheet l.stretch.begin) (l.rows - strip l.sheet l.stretch.begin)
