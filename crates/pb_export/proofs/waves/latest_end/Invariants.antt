-- The latest end so far, and what follows.
use Rattle.std.proofs.Common.{◌≡◌, map, drop}
use Rattle.pb_medium.specs.Entries.{entry_of}
use Rattle.pb_export.specs.Waves.{latest_end}
use Rattle.pb_export.proofs.waves.latest_end.Given as goal

abbrev pub invariant-loop-entry : goal.invariant-loop-entry
invariant-loop-entry l =
    latest_end l.latest (map entry_of (drop l.entry-index l.entries)) ≡ latest_end 0 (map entry_of l.entries)
