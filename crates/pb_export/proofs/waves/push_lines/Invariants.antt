-- What was appended so far, and what follows.
use Rattle.std.proofs.Common.{◌≡◌, ◌++◌, map, drop}
use Rattle.std.specs.List.{flat_map}
use Rattle.pb_medium.specs.Entries.{entry_of}
use Rattle.pb_export.specs.Vcd.{entry_change}
use Rattle.pb_export.proofs.waves.push_lines.Given as goal

abbrev pub invariant-loop-entry : goal.invariant-loop-entry
invariant-loop-entry l =
    l.changes.items ++ flat_map (entry_change l.window l.now) (map entry_of (drop l.entry-index l.entries))
    ≡ l.initial.changes.items ++ flat_map (entry_change l.window l.now) (map entry_of l.entries)
