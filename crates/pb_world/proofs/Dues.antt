-- When the station at a tap has to take its turn.
use Rattle.std.proofs.Common.{◌≡◌, ◌∙◌, ◌+◌, ap, arith, sym, refl, Bool, ℕ, None, Option, Some, map, if◌then◌else◌, true}
use Rattle.std.specs.Prelude.{slice_get}
use Rattle.std.specs.Option.{option_map, option_and_then}
use Rattle.std.proofs.lemmas.Bool.Decides.{nat_tests}
use Rattle.std.proofs.lemmas.Option.{slice_get-map}
use Rattle.law_model.specs.Medium as model
use Rattle.law_turn.specs.Stations.{due_of}
use Rattle.pb_station.specs.Halves.{has_come}
use Rattle.pb_transitions.specs.Clocks.{is_past}
use Rattle.pb_taps.specs.Taps.{AreSeated, seat_of, tap_of}
use Rattle.pb_taps.specs.declared.taps.Tap.{Tap}
use Rattle.pb_taps.proofs.Seats.{seat-of-tap}
use Rattle.pb_world.specs.Buses.{world_of}
use Rattle.pb_world.specs.Worlds.{due_at}
use Rattle.pb_world.specs.declared.buses.Bus.{Bus}

-- of a tap that runs it is what its station says
pub due-running : (bus : Bus) (tap : ℕ) (t : Tap) → AreSeated bus.params 0 (map seat_of bus.taps.items) → slice_get bus.taps.items tap ≡ Some t → t.running ≡ true
    → due_of t.station.params t.station.station t.marks ≡ due_at (world_of bus) tap
due-running bus tap t seats at running =
    let s = t.station in
    ap (λ p. due_of p s.station t.marks) (ap (λ x. x.params) (seat-of-tap bus.params bus.taps.items tap t seats at))
    ∙ sym (
    ap (option_and_then (λ (x : model.Tap). if x.running then due_of bus.params x.station x.marks else None)) (slice_get-map tap_of bus.taps.items tap ∙ ap (option_map tap_of) at)
    ∙ ap (λ (b : Bool). if b then due_of bus.params s.station t.marks else None) running
    )

-- a moment has come by another if it is past one bit time later
pub past-by : (at : ℕ) (moment : Option ℕ) → is_past 0 (at + 1) moment ≡ has_come moment at
past-by at None = refl
past-by at (Some m) = grind (arith, nat_tests)
