-- What was appended so far, and what follows.
use Rattle.std.proofs.Common.{◌≡◌, ◌++◌, ◌-◌}
use Rattle.pb_export.specs.Places.{bars_from, strip}
use Rattle.pb_export.proofs.places.push_bars.Given as goal

abbrev pub invariant-loop-strip : goal.invariant-loop-strip
invariant-loop-strip l =
    l.text.items ++ bars_from l.sheet l.bar l.stretch l.strip (l.rows - l.strip)
    ≡ l.initial.text.items ++ bars_from l.sheet l.bar l.stretch (strip l.sheet l.stretch.begin) (l.rows - strip l.sheet l.stretch.begin)
