-- Those so far are over.
use Rattle.std.proofs.Common.{map}
use Rattle.std.specs.Prelude.{take}
use Rattle.pb_medium.specs.Entries.{entry_of}
use Rattle.pb_export.specs.Waves.{AreOver}
use Rattle.pb_export.proofs.waves.over_until.Given as goal

abbrev pub invariant-loop-place : goal.invariant-loop-place
invariant-loop-place l =
    AreOver l.now (take l.place (map entry_of l.entries))
