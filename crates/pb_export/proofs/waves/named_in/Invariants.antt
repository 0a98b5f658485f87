-- The name with those so far, and what follows.
use Rattle.std.proofs.Common.{◌≡◌, ◌+◌, None, map, drop}
use Rattle.pb_medium.specs.Entries.{entry_of}
use Rattle.pb_export.specs.Vcd.{named_from}
use Rattle.pb_export.proofs.waves.named_in.Given as goal

abbrev pub invariant-loop-place : goal.invariant-loop-place
invariant-loop-place l =
    named_from l.window l.now (l.first + l.place) l.named (map entry_of (drop l.place l.entries))
    ≡ named_from l.window l.now l.first None (map entry_of l.entries)
