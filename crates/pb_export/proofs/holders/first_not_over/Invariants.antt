-- Those so far are over.
use Rattle.std.proofs.Common.{map}
use Rattle.std.specs.Prelude.{take}
use Rattle.pb_medium.specs.Entries.{entry_of}
use Rattle.pb_export.specs.Gone.{AreGone}
use Rattle.pb_export.proofs.holders.first_not_over.Given as goal

abbrev pub invariant-loop-place : goal.invariant-loop-place
invariant-loop-place l =
    AreGone l.delay l.moment (take l.place (map entry_of l.before))
