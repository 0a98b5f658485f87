-- The walk does not go back.
use Rattle.std.proofs.Common.{◌≤◌}
use Rattle.pb_export.proofs.waves.begun_until.Given as goal

abbrev pub invariant-loop-place : goal.invariant-loop-place
invariant-loop-place l =
    l.next ≤ l.place
