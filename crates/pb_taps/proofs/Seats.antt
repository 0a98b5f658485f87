-- The stations of the taps, each at its tap, and the order of their marks.
use Rattle.std.proofs.Common.{◌≡◌, ◌∙◌, ap, sym, subst, ℕ, ◌+◌, ◌≤◌, ◌<◌, ◌++◌, List, [], ◌∷◌, map, length, arith, Some, zero, suc}
use Rattle.std.specs.Prelude.{slice_get, slice_set, slice_index_or}
use Rattle.std.proofs.lemmas.Option.{none-some, same_Some}
use Rattle.pb_timers.specs.Timers.{Params}
use Rattle.law_turn.specs.Marks as turn
use Rattle.law_turn.specs.Marks.{moment_of}
use Rattle.law_model.specs.Laws.{AllInOrder, InOrder}
use Rattle.pb_station.specs.MarkViews.{mark_of, AllOver}
use Rattle.pb_station.specs.declared.marks.Mark.{Mark}
use Rattle.pb_taps.specs.Taps.{Seat, tap_of, seat_of, AreSeated}
use Rattle.pb_taps.specs.declared.taps.Tap.{Tap}

-- the marks of the tap at a position stand in order of time
pub order-at : (now : ℕ) (ts : List Tap) (i : ℕ) (t : Tap) → AllInOrder now (map tap_of ts) → slice_get ts i ≡ Some t → InOrder 0 t.marks now
order-at now [] i t order at = absurd (none-some t at)
order-at now (x ∷ ts) zero t order at = subst (λ (y : Tap). InOrder 0 y.marks now) (same_Some x t at) order.1
order-at now (x ∷ ts) (suc i) t order at = order-at now ts i t order.2 at

-- none of them is of a later moment
not-after : (from now : ℕ) (ms : List turn.Mark) → InOrder from ms now → from ≤ now
not-after from now [] order = order
not-after from now (m ∷ ms) order = omega (arith, order.0, not-after (moment_of m) now ms order.1)

pub all-over : (from now : ℕ) (ms : List turn.Mark) → InOrder from ms now → AllOver now ms
all-over from now [] order = tt
all-over from now (m ∷ ms) order = (not-after (moment_of m) now ms order.1, all-over (moment_of m) now ms order.1)

pub over-in : (from now : ℕ) (ms : List Mark) → InOrder from (map mark_of ms) now → (k : ℕ) (d : Mark) → k < length ms → moment_of (mark_of (slice_index_or ms k d)) ≤ now
over-in from now [] order k d there = absurd (omega (arith, there))
over-in from now (m ∷ ms) order zero d there = not-after (moment_of (mark_of m)) now (map mark_of ms) order.1
over-in from now (m ∷ ms) order (suc k) d there = over-in (moment_of (mark_of m)) now ms order.1 k d (omega (arith, there))

-- the station at a position is at its tap
pub seat-at : (p : Params) (k : ℕ) (ts : List Tap) (i : ℕ) (t : Tap) → AreSeated p k (map seat_of ts) → slice_get ts i ≡ Some t
    → seat_of t ≡ record { tap = k + i; params = p }
seat-at p k [] i t seated at = absurd (none-some t at)
seat-at p k (x ∷ ts) zero t seated at =
    let place : k ≡ k + 0 = omega arith in
    ap seat_of (sym (same_Some x t at)) ∙ seated.0 ∙ ap (λ (n : ℕ). record { tap = n; params = p }) place
seat-at p k (x ∷ ts) (suc i) t seated at =
    let place : (k + 1) + i ≡ k + suc i = omega arith in
    seat-at p (k + 1) ts i t seated.1 at ∙ ap (λ (n : ℕ). record { tap = n; params = p }) place

pub seat-of-tap : (p : Params) (ts : List Tap) (i : ℕ) (t : Tap) → AreSeated p 0 (map seat_of ts) → slice_get ts i ≡ Some t → seat_of t ≡ record { tap = i; params = p }
seat-of-tap p ts i t seated at = let place : 0 + i ≡ i = omega arith in seat-at p 0 ts i t seated at ∙ ap (λ (n : ℕ). record { tap = n; params = p }) place

-- one more station, at the next tap
pub seated-more : (p : Params) (k : ℕ) (ss : List Seat) (s : Seat) → AreSeated p k ss → s ≡ record { tap = k + length ss; params = p } → AreSeated p k (ss ++ s ∷ [])
seated-more p k [] s seated at = let place : k + 0 ≡ k = omega arith in (at ∙ ap (λ (n : ℕ). record { tap = n; params = p }) place, tt)
seated-more p k (x ∷ ss) s seated at =
    let place : k + suc (length ss) ≡ (k + 1) + length ss = omega arith in
    (seated.0, seated-more p (k + 1) ss s seated.1 (at ∙ ap (λ (n : ℕ). record { tap = n; params = p }) place))

-- another station at the same seat
pub same-seats : (ts : List Tap) (i : ℕ) (t x : Tap) → slice_get ts i ≡ Some t → seat_of x ≡ seat_of t → map seat_of (slice_set ts i x) ≡ map seat_of ts
same-seats [] i t x at same = absurd (none-some t at)
same-seats (y ∷ ts) zero t x at same = ap (λ (s : Seat). s ∷ map seat_of ts) (same ∙ ap seat_of (sym (same_Some y t at)))
same-seats (y ∷ ts) (suc i) t x at same = ap (λ (ss : List Seat). seat_of y ∷ ss) (same-seats ts i t x at same)
