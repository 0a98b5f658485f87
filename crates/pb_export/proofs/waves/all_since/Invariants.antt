-- Those so far begin no earlier.
use Rattle.std.proofs.Common.{◌≡◌, map, drop}
use Rattle.pb_medium.specs.Entries.{entry_of}
use Rattle.pb_export.specs.Waves.{are_since}
use Rattle.pb_export.proofs.waves.all_since.Given as goal

abbrev pub invariant-loop-entry : goal.invariant-loop-entry
invariant-loop-entry l =
    are_since l.moment (map entry_of (drop l.entry-index l.entries)) ≡ are_since l.moment (map entry_of l.entries)
