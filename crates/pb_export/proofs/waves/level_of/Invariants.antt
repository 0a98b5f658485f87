-- The level with those so far, and what follows.
use Rattle.std.proofs.Common.{◌≡◌, map, drop}
use Rattle.pb_medium.specs.Entries.{entry_of}
use Rattle.pb_export.specs.declared.levels.Level.TheVariants.{High}
use Rattle.pb_export.specs.Levels.{bus_from}
use Rattle.pb_export.proofs.waves.level_of.Given as goal

abbrev pub invariant-loop-entry : goal.invariant-loop-entry
invariant-loop-entry l =
    bus_from l.window l.level (map entry_of (drop l.entry-index l.entries)) l.now ≡ bus_from l.window High (map entry_of l.entries) l.now
