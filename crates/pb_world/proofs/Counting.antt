-- Accepted events leave as many taps as there were.
use Rattle.std.proofs.Common.{◌≡◌, ◌∙◌, ℕ, zero, suc, ◌+◌, Bool, not, ◌&&◌, ◌||◌, ◌==◌, List, [], ◌∷◌, map, length, Option, Some, None, Ok, Err, Result, refl, ap, sym}
use Rattle.std.proofs.lemmas.List.{length-map}
use Rattle.std.specs.Prelude.{slice_get, slice_set, is_some, is_none, nat_le, find}
use Rattle.std.specs.List.{list_any}
use Rattle.pb_faults.specs.FirstFault.{first_fault}
use Rattle.pb_timers.specs.Timers.{Params}
use Rattle.law_turn.specs.Turns.{turn_of}
use Rattle.law_turn.specs.Stations.{list_for, pushed}
use Rattle.pb_cycles.specs.RequestFields.{RequestFields}
use Rattle.law_model.specs.Trace.{Entry, cut_at, begins_from, unheard_at}
use Rattle.law_model.specs.Medium.{Tap, TapSpec, entry_at}
use Rattle.law_model.specs.World.{World, Event, Turn, Pass, Damage, Start, Stop, Queue, Noise, Unheard, Reply, Fault, NoSuchTap, NotRunning, Running, NothingInAir, ZeroTime, QueueFull, TraceFull, unless, unless_fault, trace_limit, queue_limit, is_in_air_by, new_world, new_faults, stopped_tap}
use Rattle.law_model.specs.Step.{step, step_turn, with_said, told, pass_faults, with_hit, change_first, has_place, step_damage, started_tap, step_start, halted, step_stop, step_queue, with_noise, is_noisy, step_unheard}
use Rattle.law_runs.specs.Runs.{all, and_then}
use Rattle.law_runs.specs.Bus.{bus}

-- where no refusal applies, the outcome is the one that was made
made : {X F : Type 0} (tests : List (Bool × F)) (x y : X) → unless tests x ≡ Ok y → x ≡ y
made {X} {F} tests x y = by (first_fault tests)
  where
    by : (o : Option F) → unless_fault o x ≡ Ok y → x ≡ y
    by None ok = cc
    by (Some fault) ok = absurd cc

-- the taps of what was made
count-unless : (tests : List (Bool × Fault)) (x : World × Reply) (u : World) (r : Reply) → unless tests x ≡ Ok (u, r) → length u.taps ≡ length x.0.taps
count-unless tests x u r ok = ap (λ (y : World × Reply). length y.0.taps) (sym (made tests x (u, r) ok))

count-set : {X : Type 0} (xs : List X) (i : ℕ) (x : X) → length (slice_set xs i x) ≡ length xs
count-set [] i x = refl
count-set (y ∷ ys) zero x = refl
count-set (y ∷ ys) (suc i) x = ap suc (count-set ys i x)

count-told : (delay : ℕ) (trace : List Entry) (from to tap : ℕ) (ts : List Tap) → length (told delay trace from to tap ts) ≡ length ts
count-told delay trace from to tap [] = refl
count-told delay trace from to tap (t ∷ ts) = ap suc (count-told delay trace from to (tap + 1) ts)

count-turn : (w u : World) (r : Reply) (tap : ℕ) (o : Option Tap) → step_turn w tap o ≡ Ok (u, r) → length u.taps ≡ length w.taps
count-turn w u r tap None ok = absurd cc
count-turn w u r tap (Some t) ok =
    let turn = turn_of w.params t.station t.marks w.now in
    let turned : Tap = record t { station = turn.0; marks = [] } in
    count-unless ((not t.running, NotRunning) ∷ (is_some turn.1 && nat_le w.limit (length w.trace), TraceFull) ∷ [])
    (record w { trace = with_said tap turn.1 w.now w.taps w.trace; taps = slice_set w.taps tap turned }, record { now = w.now; spoke = turn.1 }) u r ok
    ∙ count-set w.taps tap turned

count-start : (w u : World) (r : Reply) (tap : ℕ) (o : Option Tap) → step_start w tap o ≡ Ok (u, r) → length u.taps ≡ length w.taps
count-start w u r tap None ok = absurd cc
count-start w u r tap (Some t) ok =
    count-unless ((t.running || list_any (is_in_air_by w.params.ttd w.now tap) w.trace, Running) ∷ [])
    (record w { taps = slice_set w.taps tap (started_tap w tap t) }, record { now = w.now; spoke = None }) u r ok
    ∙ count-set w.taps tap (started_tap w tap t)

count-stop : (w u : World) (r : Reply) (tap : ℕ) (o : Option Tap) → step_stop w tap o ≡ Ok (u, r) → length u.taps ≡ length w.taps
count-stop w u r tap None ok = absurd cc
count-stop w u r tap (Some t) ok =
    count-unless ((not t.running, NotRunning) ∷ [])
    (record w { trace = map (cut_at w.now tap) w.trace; taps = slice_set w.taps tap (halted t) }, record { now = w.now; spoke = None }) u r ok
    ∙ count-set w.taps tap (halted t)

count-queue : (w u : World) (r : Reply) (tap : ℕ) (q : RequestFields) (o : Option Tap) → step_queue w tap q o ≡ Ok (u, r) → length u.taps ≡ length w.taps
count-queue w u r tap q None ok = absurd cc
count-queue w u r tap q (Some t) ok =
    let queued : Tap = record t { station = pushed t.station q } in
    count-unless ((not (t.running && t.spec.master), NotRunning) ∷ (nat_le queue_limit (length (list_for t.station.cycles.queue q)), QueueFull) ∷ [])
    (record w { taps = slice_set w.taps tap queued }, record { now = w.now; spoke = None }) u r ok
    ∙ count-set w.taps tap queued

count-damage : (w u : World) (r : Reply) (tap speaker : ℕ) (place : Option ℕ) (at from : Option Tap) → step_damage w tap speaker place at from ≡ Ok (u, r) → length u.taps ≡ length w.taps
count-damage w u r tap speaker place at from ok =
    let in_air = is_in_air_by w.params.ttd w.now speaker in
    count-unless ((is_none at || is_none from, NoSuchTap) ∷ (tap == speaker || not (has_place (find in_air w.trace) place), NothingInAir) ∷ [])
    (record w { trace = change_first in_air (with_hit (record { tap = tap; place = place })) w.trace }, record { now = w.now; spoke = None }) u r ok

count-unheard : (w u : World) (r : Reply) (tap speaker : ℕ) (at from : Option Tap) → step_unheard w tap speaker at from ≡ Ok (u, r) → length u.taps ≡ length w.taps
count-unheard w u r tap speaker at from ok =
    let begins = begins_from w.now speaker in
    count-unless ((is_none at || is_none from, NoSuchTap) ∷ (tap == speaker || not (list_any begins w.trace), NothingInAir) ∷ [])
    (record w { trace = change_first begins (unheard_at tap) w.trace }, record { now = w.now; spoke = None }) u r ok

count-step : (w u : World) (r : Reply) (e : Event) → step w e ≡ Ok (u, r) → length u.taps ≡ length w.taps
count-step w u r (Turn tap) ok = count-turn w u r tap (slice_get w.taps tap) ok
count-step w u r (Pass bits) ok =
    let now = w.now + bits in
    let taps = told w.params.ttd w.trace w.now now 0 w.taps in
    count-unless (pass_faults w bits taps)
    (record w { now = now; taps = taps; trace = map (entry_at w.params.ttd w.taps w.trace w.now now) w.trace }, record { now = now; spoke = None }) u r ok
    ∙ count-told w.params.ttd w.trace w.now now 0 w.taps
count-step w u r (Damage tap speaker place) ok = count-damage w u r tap speaker place (slice_get w.taps tap) (slice_get w.taps speaker) ok
count-step w u r (Start tap) ok = count-start w u r tap (slice_get w.taps tap) ok
count-step w u r (Stop tap) ok = count-stop w u r tap (slice_get w.taps tap) ok
count-step w u r (Queue tap request) ok = count-queue w u r tap request (slice_get w.taps tap) ok
count-step w u r (Noise bits) ok =
    count-unless ((bits == 0, ZeroTime) ∷ (not (is_noisy w) && nat_le w.limit (length w.trace), TraceFull) ∷ [])
    (record w { trace = with_noise w.now (w.now + bits) (is_noisy w) w.trace }, record { now = w.now; spoke = None }) u r ok
count-step w u r (Unheard tap speaker) ok = count-unheard w u r tap speaker (slice_get w.taps tap) (slice_get w.taps speaker) ok

-- ---- events in a row, and the new world

pub count-all : (now : ℕ) (es : List Event) (w u : World) → all bus now es w ≡ Ok u → length u.taps ≡ length w.taps
count-all now [] w u same = let is : w ≡ u = ok-is w u same in ap (λ (x : World). length x.taps) (sym is)
  where
    ok-is : (w u : World) → (let o : Result World (ℕ × Fault) = Ok w in o ≡ Ok u) → w ≡ u
    ok-is w u same = cc
count-all now (e ∷ es) w u same = by (λ v. count-all now es v u) (step w e) refl same
  where
    by : ((v : World) → all bus now es v ≡ Ok u → length u.taps ≡ length v.taps) → (o : Result (World × Reply) Fault) → step w e ≡ o → and_then now o (all bus now es) ≡ Ok u → length u.taps ≡ length w.taps
    by rest (Ok next) is same = rest next.0 same ∙ count-step w next.0 next.1 e is
    by rest (Err f) is same = absurd cc

pub count-new : (p : Params) (specs : List TapSpec) (w : World) → new_world p specs ≡ Ok w → length w.taps ≡ length specs
count-new p specs w ok =
    let first : World = record { params = p; now = 0; trace = []; taps = map (stopped_tap p) specs; limit = trace_limit } in
    ap (λ (x : World). length x.taps) (sym (made (new_faults p specs) first w ok)) ∙ length-map specs (stopped_tap p)
