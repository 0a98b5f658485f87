use Rattle.std.proofs.Common.{◌≡◌, ℕ, length}
use Rattle.std.specs.Prelude.{slice_get}
use Rattle.pb_world.specs.Told.{tray_in}
use Rattle.pb_world.proofs.told.add_places.Given as goal

-- a place more for each tap
abbrev pub invariant-loop : goal.invariant-loop
invariant-loop l = record {
  same : (k : ℕ) → tray_in (slice_get l.trays.items k) ≡ tray_in (slice_get l.fn.trays.items k);
  here : length l.trays.items ≡ l.counter;
}
