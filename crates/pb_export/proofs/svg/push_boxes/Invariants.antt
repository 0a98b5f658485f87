-- What was appended so far, and what follows.
use Rattle.std.proofs.Common.{◌≡◌, ◌++◌, map, drop}
use Rattle.pb_medium.specs.Entries.{entry_of}
use Rattle.pb_export.specs.Svg.{boxes}
use Rattle.pb_export.proofs.svg.push_boxes.Given as goal

abbrev pub invariant-loop-entry : goal.invariant-loop-entry
invariant-loop-entry l =
    l.text.items ++ boxes l.window l.scenario l.sheet l.lanes (map entry_of (drop l.entry-index l.entries))
    ≡ l.initial.text.items ++ boxes l.window l.scenario l.sheet l.lanes (map entry_of l.entries)
