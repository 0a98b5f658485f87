-- What an accepted event leaves of a world: the clock, and of a turn the other taps.
use Rattle.std.proofs.Common.{◌≡◌, ◌≢◌, ℕ, zero, suc, ◌+◌, Bool, not, ◌&&◌, ◌||◌, ◌==◌, List, [], ◌∷◌, map, length, Option, Some, None, Ok, refl, ap, sym, arith}
use Rattle.std.specs.Prelude.{slice_get, slice_set, is_some, is_none, nat_le, find}
use Rattle.std.specs.List.{list_any}
use Rattle.pb_faults.specs.FirstFault.{first_fault}
use Rattle.law_turn.specs.Turns.{turn_of}
use Rattle.law_turn.specs.Stations.{list_for, pushed}
use Rattle.pb_cycles.specs.RequestFields.{RequestFields}
use Rattle.law_model.specs.Trace.{cut_at, begins_from, unheard_at}
use Rattle.law_model.specs.Medium.{Tap, entry_at}
use Rattle.law_model.specs.World.{World, Event, Turn, Pass, Damage, Start, Stop, Queue, Noise, Unheard, Reply, Fault, NoSuchTap, NotRunning, Running, NothingInAir, ZeroTime, QueueFull, TraceFull, unless, unless_fault, trace_limit, queue_limit, is_in_air_by}
use Rattle.law_model.specs.Step.{step, step_turn, with_said, told, pass_faults, with_hit, change_first, has_place, step_damage, started_tap, step_start, halted, step_stop, step_queue, with_noise, is_noisy, step_unheard}

-- where no refusal applies, the outcome is the one that was made
unless-ok : (tests : List (Bool × Fault)) (x y : World × Reply) → unless tests x ≡ Ok y → x ≡ y
unless-ok tests x y = by (first_fault tests)
  where
    by : (o : Option Fault) → unless_fault o x ≡ Ok y → x ≡ y
    by None ok = cc
    by (Some fault) ok = absurd cc

-- the clock of what was made
clock-unless : (tests : List (Bool × Fault)) (x : World × Reply) (u : World) (r : Reply) → unless tests x ≡ Ok (u, r) → u.now ≡ x.0.now
clock-unless tests x u r ok = ap (λ (y : World × Reply). y.0.now) (sym (unless-ok tests x (u, r) ok))

-- ---- the clock

-- how long an event takes
abbrev pub lasts : Event → ℕ
lasts (Turn tap) = 0
lasts (Pass bits) = bits
lasts (Damage tap speaker place) = 0
lasts (Start tap) = 0
lasts (Stop tap) = 0
lasts (Queue tap request) = 0
lasts (Noise bits) = 0
lasts (Unheard tap speaker) = 0

clock-turn : (w u : World) (r : Reply) (tap : ℕ) (o : Option Tap) → step_turn w tap o ≡ Ok (u, r) → u.now ≡ w.now
clock-turn w u r tap None ok = absurd cc
clock-turn w u r tap (Some t) ok =
    let turn = turn_of w.params t.station t.marks w.now in
    clock-unless ((not t.running, NotRunning) ∷ (is_some turn.1 && nat_le w.limit (length w.trace), TraceFull) ∷ [])
    (record w { trace = with_said tap turn.1 w.now w.taps w.trace; taps = slice_set w.taps tap (record t { station = turn.0; marks = [] }) }, record { now = w.now; spoke = turn.1 })
    u r ok

clock-start : (w u : World) (r : Reply) (tap : ℕ) (o : Option Tap) → step_start w tap o ≡ Ok (u, r) → u.now ≡ w.now
clock-start w u r tap None ok = absurd cc
clock-start w u r tap (Some t) ok =
    clock-unless ((t.running || list_any (is_in_air_by w.params.ttd w.now tap) w.trace, Running) ∷ [])
    (record w { taps = slice_set w.taps tap (started_tap w tap t) }, record { now = w.now; spoke = None }) u r ok

clock-stop : (w u : World) (r : Reply) (tap : ℕ) (o : Option Tap) → step_stop w tap o ≡ Ok (u, r) → u.now ≡ w.now
clock-stop w u r tap None ok = absurd cc
clock-stop w u r tap (Some t) ok =
    clock-unless ((not t.running, NotRunning) ∷ [])
    (record w { trace = map (cut_at w.now tap) w.trace; taps = slice_set w.taps tap (halted t) }, record { now = w.now; spoke = None }) u r ok

clock-queue : (w u : World) (r : Reply) (tap : ℕ) (q : RequestFields) (o : Option Tap) → step_queue w tap q o ≡ Ok (u, r) → u.now ≡ w.now
clock-queue w u r tap q None ok = absurd cc
clock-queue w u r tap q (Some t) ok =
    clock-unless ((not (t.running && t.spec.master), NotRunning) ∷ (nat_le queue_limit (length (list_for t.station.cycles.queue q)), QueueFull) ∷ [])
    (record w { taps = slice_set w.taps tap (record t { station = pushed t.station q }) }, record { now = w.now; spoke = None }) u r ok

clock-damage : (w u : World) (r : Reply) (tap speaker : ℕ) (place : Option ℕ) (at from : Option Tap) → step_damage w tap speaker place at from ≡ Ok (u, r) → u.now ≡ w.now
clock-damage w u r tap speaker place at from ok =
    let in_air = is_in_air_by w.params.ttd w.now speaker in
    clock-unless ((is_none at || is_none from, NoSuchTap) ∷ (tap == speaker || not (has_place (find in_air w.trace) place), NothingInAir) ∷ [])
    (record w { trace = change_first in_air (with_hit (record { tap = tap; place = place })) w.trace }, record { now = w.now; spoke = None }) u r ok

clock-unheard : (w u : World) (r : Reply) (tap speaker : ℕ) (at from : Option Tap) → step_unheard w tap speaker at from ≡ Ok (u, r) → u.now ≡ w.now
clock-unheard w u r tap speaker at from ok =
    let begins = begins_from w.now speaker in
    clock-unless ((is_none at || is_none from, NoSuchTap) ∷ (tap == speaker || not (list_any begins w.trace), NothingInAir) ∷ [])
    (record w { trace = change_first begins (unheard_at tap) w.trace }, record { now = w.now; spoke = None }) u r ok

stays : {m n : ℕ} → m ≡ n → m ≡ n + 0
stays same = omega (arith, same)

-- the clock after an accepted event
pub clock-step : (w u : World) (r : Reply) (e : Event) → step w e ≡ Ok (u, r) → u.now ≡ w.now + lasts e
clock-step w u r (Turn tap) ok = stays (clock-turn w u r tap (slice_get w.taps tap) ok)
clock-step w u r (Pass bits) ok =
    let now = w.now + bits in
    let taps = told w.params.ttd w.trace w.now now 0 w.taps in
    clock-unless (pass_faults w bits taps)
    (record w { now = now; taps = taps; trace = map (entry_at w.params.ttd w.taps w.trace w.now now) w.trace }, record { now = now; spoke = None }) u r ok
clock-step w u r (Damage tap speaker place) ok = stays (clock-damage w u r tap speaker place (slice_get w.taps tap) (slice_get w.taps speaker) ok)
clock-step w u r (Start tap) ok = stays (clock-start w u r tap (slice_get w.taps tap) ok)
clock-step w u r (Stop tap) ok = stays (clock-stop w u r tap (slice_get w.taps tap) ok)
clock-step w u r (Queue tap request) ok = stays (clock-queue w u r tap request (slice_get w.taps tap) ok)
clock-step w u r (Noise bits) ok =
    stays (clock-unless ((bits == 0, ZeroTime) ∷ (not (is_noisy w) && nat_le w.limit (length w.trace), TraceFull) ∷ [])
    (record w { trace = with_noise w.now (w.now + bits) (is_noisy w) w.trace }, record { now = w.now; spoke = None }) u r ok)
clock-step w u r (Unheard tap speaker) ok = stays (clock-unheard w u r tap speaker (slice_get w.taps tap) (slice_get w.taps speaker) ok)

-- ---- turns

-- what a turn leaves: the parameters, and the taps but its own
pub record TurnLeaves (w : World) (i : ℕ) (u : World) : Type 0 where
  pub tap : Tap
  pub taps : u.taps ≡ slice_set w.taps i tap
  pub params : u.params ≡ w.params

pub turn-leaves : (w u : World) (i : ℕ) (r : Reply) → step w (Turn i) ≡ Ok (u, r) → TurnLeaves w i u
turn-leaves w u i r = by (slice_get w.taps i)
  where
    by : (o : Option Tap) → step_turn w i o ≡ Ok (u, r) → TurnLeaves w i u
    by None ok = absurd cc
    by (Some t) ok =
        let turn = turn_of w.params t.station t.marks w.now in
        let turned : Tap = record t { station = turn.0; marks = [] } in
        let made : World × Reply =
        (record w { trace = with_said i turn.1 w.now w.taps w.trace; taps = slice_set w.taps i turned }, record { now = w.now; spoke = turn.1 }) in
        let same : made ≡ (u, r) = unless-ok ((not t.running, NotRunning) ∷ (is_some turn.1 && nat_le w.limit (length w.trace), TraceFull) ∷ []) made (u, r) ok in
        record { tap = turned; taps = ap (λ (x : World × Reply). x.0.taps) (sym same); params = ap (λ (x : World × Reply). x.0.params) (sym same) }

pub get-other : {X : Type 0} (xs : List X) (i j : ℕ) (x : X) → i ≢ j → slice_get (slice_set xs i x) j ≡ slice_get xs j
get-other [] i j x other = refl
get-other (y ∷ ys) zero zero x other = absurd (other refl)
get-other (y ∷ ys) zero (suc j) x other = refl
get-other (y ∷ ys) (suc i) zero x other = refl
get-other (y ∷ ys) (suc i) (suc j) x other = get-other ys i j x (λ same. other (ap suc same))
