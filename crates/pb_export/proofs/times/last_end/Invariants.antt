-- The latest end so far, and what follows.
use Rattle.std.proofs.Common.{◌≡◌, map, drop}
use Rattle.pb_medium.specs.Entries.{entry_of}
use Rattle.pb_export.specs.Times.{last_end}
use Rattle.pb_export.proofs.times.last_end.Given as goal

abbrev pub invariant-loop-entry : goal.invariant-loop-entry
invariant-loop-entry l =
    last_end l.window l.last (map entry_of (drop l.entry-index l.entries)) ≡ last_end l.window l.moment (map entry_of l.entries)
