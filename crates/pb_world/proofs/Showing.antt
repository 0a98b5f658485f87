-- What a tap shows, as the model says it.
use Rattle.std.proofs.Common.{◌≡◌, ◌∙◌, ap, sym, subst, ℕ, ◌<◌, List, [], ◌∷◌, zero, suc, map, length, arith, Some, refl}
use Rattle.std.specs.Prelude.{slice_get, ◌↔◌}
use Rattle.std.specs.Option.{option_map}
use Rattle.std.proofs.lemmas.Option.{none-some, same_Some, slice_get-map, slice_get_past}
use Rattle.law_model.specs.Laws.{InOrder}
use Rattle.law_model.specs.Medium as medium
use Rattle.pb_station.specs.MarkViews.{mark_of}
use Rattle.pb_station.specs.declared.decisions.Glance.{Glance}
use Rattle.pb_station.specs.Decisions.{DecisionView}
use Rattle.pb_taps.specs.Glancing.{FitsTap, Shows}
use Rattle.pb_taps.specs.Taps.{tap_of}
use Rattle.pb_taps.specs.declared.taps.Tap.{Tap}
use Rattle.pb_taps.proofs.Seats.{order-at, over-in, seat-of-tap}
use Rattle.pb_world.specs.Buses.{world_of, IsKept}
use Rattle.pb_world.specs.Glances.{CanBeDecided, Fits, IsGlance, station_at}
use Rattle.pb_world.specs.declared.buses.Bus.{Bus}

-- the tap at a position of the list
pub tap_there : (ts : List Tap) (i : ℕ) → i < length ts → (t : Tap) × (slice_get ts i ≡ Some t)
tap_there [] i there = absurd (omega (arith, there))
tap_there (t ∷ ts) zero there = (t, refl)
tap_there (t ∷ ts) (suc i) there = tap_there ts i (omega (arith, there))

-- the station of a tap, as a reader sees it
seen-at : (bus : Bus) (i : ℕ) (t : Tap) → IsKept bus → slice_get bus.taps.items i ≡ Some t → t.station ≡ station_at (world_of bus) i (tap_of t)
seen-at bus i t kept at = ap (λ seat. record t.station { tap = seat.tap; params = seat.params }) (seat-of-tap bus.params bus.taps.items i t kept.seats at)

pub shows : (bus : Bus) (i : ℕ) (t : Tap) (g : Glance) → IsKept bus → slice_get bus.taps.items i ≡ Some t → Shows t i bus.now g → IsGlance (world_of bus) i g
shows bus i t g kept at s = (
  tap_of t,
  slice_get-map tap_of bus.taps.items i ∙ ap (option_map tap_of) at,
  s.0,
  s.1 ∙ seen-at bus i t kept at,
  s.2,
  s.3,
)

pub can_be_decided : (bus : Bus) (i : ℕ) (t : Tap) (g : Glance) → IsKept bus → slice_get bus.taps.items i ≡ Some t → Shows t i bus.now g → CanBeDecided g
can_be_decided bus i t g kept at s =
    let order : InOrder 0 t.marks bus.now = order-at bus.now bus.taps.items i t kept.sound.in_order at in
    let told = subst (λ ms. InOrder 0 ms bus.now) (sym s.2) order in
    (omega (arith, s.3, kept.clock), over-in 0 g.now g.marks.items (subst (λ now. InOrder 0 (map mark_of g.marks.items) now) (sym s.3) told))

-- the tap that the model sees at a position
seen-tap : (ts : List Tap) (i : ℕ) (m : medium.Tap) → slice_get (map tap_of ts) i ≡ Some m → (t : Tap) × (slice_get ts i ≡ Some t) × (tap_of t ≡ m)
seen-tap [] i m at = absurd (none-some m (sym (slice_get_past [] i (omega arith)) ∙ at))
seen-tap (t ∷ ts) zero m at = (t, refl, same_Some (tap_of t) m at)
seen-tap (t ∷ ts) (suc i) m at = seen-tap ts i m at

pub fits : (bus : Bus) (d : DecisionView) → IsKept bus → FitsTap bus.taps.items bus.now d ↔ Fits (world_of bus) d
fits bus d kept = (
  (λ f. (
    tap_of f.0,
    slice_get-map tap_of bus.taps.items d.tap ∙ ap (option_map tap_of) f.1,
    f.2.0 ∙ seen-at bus d.tap f.0 kept f.1,
    f.2.1,
    f.2.2,
  )),
  (λ f. let t = seen-tap bus.taps.items d.tap f.0 f.1 in (
    t.0,
    t.1,
    (
      f.2 ∙ ap (station_at (world_of bus) d.tap) (sym t.2) ∙ sym (seen-at bus d.tap t.0 kept t.1),
      f.3 ∙ ap (λ x. x.marks) (sym t.2),
      f.4,
    ),
  )),
)
