-- What every event keeps of a world.
use Rattle.std.proofs.Common.{◌≡◌, ℕ, ◌+◌, ◌<◌, ◌≤◌, List, [], ◌∷◌, length, map, Bool, true, false, not, ◌||◌, ◌&&◌, ◌==◌, refl, ap, subst, arith, Option, Some, None, Ok, Err, zero, suc}
use Rattle.std.specs.Prelude.{IfSome, nat_le, slice_get, slice_set, is_some, is_none, find}
use Rattle.std.specs.List.{list_any}
use Rattle.std.proofs.lemmas.Bool.{eqb-false}
use Rattle.std.proofs.lemmas.Option.{none-some, same_Some}
use Rattle.pb_faults.specs.FirstFault.{first_fault, NoneHolds}
use Rattle.pb_faults.proofs.FirstFaults.{none_holds}
use Rattle.pb_timers.specs.Timers.{Params}
use Rattle.law_turn.specs.Laws.{IsRequest}
use Rattle.pb_cycles.specs.RequestFields.{RequestFields}
use Rattle.law_turn.specs.Stations.{started, list_for, pushed}
use Rattle.law_turn.specs.Turns.{turn_of}
use Rattle.law_turn.proofs.Initiating.{fits-turn_of, reply-turn_of}
use Rattle.law_turn.proofs.Keeping.{Sayable, cycles-new, cycles-started, cycles-pushed}
use Rattle.law_model.specs.Trace.{Hit, Record, Entry, Sent, Noise, entry_begin, entry_end, goes_before, with_entry, cut_end, cut_at, is_noise_at, noisy_until, begins_from, unheard_at}
use Rattle.law_model.specs.Medium.{TapSpec, Tap, reaches, ends_between, entry_at, heard_by}
use Rattle.law_model.specs.World as world
use Rattle.law_model.specs.World.{World, Event, Turn, Pass, Damage, Start, Stop, Queue, Reply, Fault, NoSuchTap, Running, NotRunning, NothingInAir, ZeroTime, QueueFull, TraceFull, unless, unless_fault, is_in_air_by, IsNewWorld, stopped_tap, new_faults, queue_limit}
use Rattle.law_model.specs.Step.{sending, with_said, step_turn, told, pass_faults, step_pass, with_hit, change_first, has_place, step_damage, started_tap, step_start, halted, step_stop, step_queue, with_noise, is_noisy, step_noise, step_unheard, step, world_after, replay}
use Rattle.law_model.specs.Laws.{AllBegun, AllInOrder, InOrder, AllSayable, IsEvent, AreEvents, AllFit, IsSound}
use Rattle.law_model.proofs.Cases.{by_test}
use Rattle.law_model.proofs.Marked.{in_order-told}

-- ---- an event that is refused, or not

-- what holds of the world before, and after where no refusal applies, holds after the event
pub world_after-unless : (P : World → Type 0) (w next : World) (reply : Reply) (tests : List (Bool × Fault)) → P w → (NoneHolds tests → P next)
    → P (world_after w (unless tests (next, reply)))
world_after-unless P w next reply tests before after = by_fault (first_fault tests) refl
  where
    by_fault : (o : Option Fault) → first_fault tests ≡ o → P (world_after w (unless_fault o (next, reply)))
    by_fault None e = after (none_holds tests e)
    by_fault (Some fault) e = before

-- ---- the trace

pub begun-with_entry : (now : ℕ) (e : Entry) (trace : List Entry) → entry_begin e ≤ now → entry_begin e < entry_end e → AllBegun now trace → AllBegun now (with_entry e trace)
begun-with_entry now e [] begun some all = (begun, some, tt)
begun-with_entry now e (x ∷ xs) begun some all =
    by_test (λ (es : List Entry). AllBegun now es) (goes_before e x) (e ∷ x ∷ xs) (x ∷ with_entry e xs)
    (λ _. (begun, some, all)) (λ _. (all.0, all.1, begun-with_entry now e xs begun some all.2))

pub begun-entry_at : (delay : ℕ) (taps : List Tap) (trace : List Entry) (now later : ℕ) (es : List Entry) → now ≤ later → AllBegun now es
    → AllBegun later (map (entry_at delay taps trace now later) es)
begun-entry_at delay taps trace now later [] le all = tt
begun-entry_at delay taps trace now later (Noise span ∷ es) le all = (omega (arith, all.0), all.1, begun-entry_at delay taps trace now later es le all.2)
begun-entry_at delay taps trace now later (Sent r ∷ es) le all =
    by_test (λ (e : Entry). AllBegun later (e ∷ map (entry_at delay taps trace now later) es)) (ends_between now later (reaches delay r))
    (Sent (record r { heard = heard_by delay trace r 0 taps r.heard })) (Sent r)
    (λ _. (omega (arith, all.0), all.1, begun-entry_at delay taps trace now later es le all.2))
    (λ _. (omega (arith, all.0), all.1, begun-entry_at delay taps trace now later es le all.2))

-- a change that leaves an entry its begin, and shortens none
abbrev pub Lengthens : (Entry → Entry) → Type 0
Lengthens change = (e : Entry) → (entry_begin (change e) ≡ entry_begin e) × (entry_end e ≤ entry_end (change e))

pub lengthens-with_hit : (hit : Hit) → Lengthens (with_hit hit)
lengthens-with_hit hit (Noise span) = (refl, omega arith)
lengthens-with_hit hit (Sent r) = (refl, omega arith)

pub lengthens-noisy_until : (m : ℕ) → Lengthens (noisy_until m)
lengthens-noisy_until m (Noise span) = (refl, omega arith)
lengthens-noisy_until m (Sent r) = (refl, omega arith)

pub lengthens-unheard_at : (tap : ℕ) → Lengthens (unheard_at tap)
lengthens-unheard_at tap (Noise span) = (refl, omega arith)
lengthens-unheard_at tap (Sent r) = (refl, omega arith)

pub begun-change_first : (now : ℕ) (test : Entry → Bool) (change : Entry → Entry) (es : List Entry) → Lengthens change → AllBegun now es → AllBegun now (change_first test change es)
begun-change_first now test change [] same all = tt
begun-change_first now test change (e ∷ es) same all =
    by_test (λ (xs : List Entry). AllBegun now xs) (test e) (change e ∷ es) (e ∷ change_first test change es)
    (λ _. (omega (arith, (same e).0, all.0), omega (arith, (same e).0, (same e).1, all.1), all.2)) (λ _. (all.0, all.1, begun-change_first now test change es same all.2))

pub begun-cut_at : (now tap : ℕ) (es : List Entry) → AllBegun now es → AllBegun now (map (cut_at now tap) es)
begun-cut_at now tap [] all = tt
begun-cut_at now tap (Noise span ∷ es) all = (all.0, all.1, begun-cut_at now tap es all.2)
begun-cut_at now tap (Sent r ∷ es) all =
    by_test (λ (x : Record). AllBegun now (Sent x ∷ map (cut_at now tap) es)) (r.tap == tap) (record r { end = cut_end now r }) r
    (λ _. (all.0, omega (arith, all.1), begun-cut_at now tap es all.2)) (λ _. (all.0, all.1, begun-cut_at now tap es all.2))

-- ---- the taps

in_order-set : (now : ℕ) (ts : List Tap) (i : ℕ) (t : Tap) → t.since ≤ now → InOrder 0 t.marks now → AllInOrder now ts → AllInOrder now (slice_set ts i t)
in_order-set now [] i t started ordered all = tt
in_order-set now (x ∷ xs) zero t started ordered all = (started, ordered, all.2)
in_order-set now (x ∷ xs) (suc i) t started ordered all = (all.0, all.1, in_order-set now xs i t started ordered all.2)

pub started-at : (now : ℕ) (ts : List Tap) (i : ℕ) (t : Tap) → AllInOrder now ts → slice_get ts i ≡ Some t → t.since ≤ now
started-at now [] i t all e = absurd (none-some t e)
started-at now (x ∷ xs) zero t all e = subst (λ (y : Tap). y.since ≤ now) (same_Some x t e) all.0
started-at now (x ∷ xs) (suc i) t all e = started-at now xs i t all.2 e

pub sayable-set : (ts : List Tap) (i : ℕ) (t : Tap) → Sayable t.station → AllSayable ts → AllSayable (slice_set ts i t)
sayable-set [] i t has all = tt
sayable-set (x ∷ xs) zero t has all = (has, all.1)
sayable-set (x ∷ xs) (suc i) t has all = (all.0, sayable-set xs i t has all.1)

pub sayable-at : (ts : List Tap) (i : ℕ) (t : Tap) → AllSayable ts → slice_get ts i ≡ Some t → Sayable t.station
sayable-at [] i t all e = absurd (none-some t e)
sayable-at (x ∷ xs) zero t all e = subst (λ (y : Tap). Sayable y.station) (same_Some x t e) all.0
sayable-at (x ∷ xs) (suc i) t all e = sayable-at xs i t all.1 e

pub sayable-told : (delay : ℕ) (trace : List Entry) (from to tap : ℕ) (ts : List Tap) → AllSayable ts → AllSayable (told delay trace from to tap ts)
sayable-told delay trace from to tap [] all = tt
sayable-told delay trace from to tap (t ∷ ts) all = (all.0, sayable-told delay trace from to (tap + 1) ts all.1)

-- ---- Turn

pub begun-with_said : (w : World) (tap : ℕ) (o : Option (List ℕ)) → IfSome o (λ octets. (0 < length octets) × (length octets ≤ 255)) → AllBegun w.now w.trace
    → AllBegun w.now (with_said tap o w.now w.taps w.trace)
begun-with_said w tap None fits all = all
begun-with_said w tap (Some octets) fits all =
    begun-with_entry w.now (Sent (sending tap octets w.now w.taps)) w.trace (omega arith) (omega (arith, fits.0)) all

sound-turn : (w : World) (tap : ℕ) (o : Option Tap) → slice_get w.taps tap ≡ o → IsSound w → IsSound (world_after w (step_turn w tap o))
sound-turn w tap None e sound = sound
sound-turn w tap (Some t) e sound =
    let turn = turn_of w.params t.station t.marks w.now in
    let has = sayable-at w.taps tap t sound.sayable e in
    world_after-unless IsSound w
    (record w { trace = with_said tap turn.1 w.now w.taps w.trace; taps = slice_set w.taps tap (record t { station = turn.0; marks = [] }) })
    (record { now = w.now; spoke = turn.1 })
    ((not t.running, NotRunning) ∷ (is_some turn.1 && nat_le w.limit (length w.trace), TraceFull) ∷ [])
    sound
    (λ _. record {
      begun = begun-with_said w tap turn.1 (fits-turn_of w.params t.station t.marks w.now has) sound.begun;
      sayable = sayable-set w.taps tap (record t { station = turn.0; marks = [] }) (reply-turn_of w.params t.station t.marks w.now has) sound.sayable;
      in_order = in_order-set w.now w.taps tap (record t { station = turn.0; marks = [] }) (started-at w.now w.taps tap t sound.in_order e) (omega arith) sound.in_order;
    })

-- ---- Pass

sound-pass : (w : World) (d : ℕ) → IsSound w → IsSound (world_after w (step_pass w d))
sound-pass w d sound =
    let now = w.now + d in
    let taps = told w.params.ttd w.trace w.now now 0 w.taps in
    world_after-unless IsSound w (record w { now = now; taps = taps; trace = map (entry_at w.params.ttd w.taps w.trace w.now now) w.trace }) (record { now = now; spoke = None })
    (pass_faults w d taps) sound
    (λ none. record {
      begun = begun-entry_at w.params.ttd w.taps w.trace w.now now w.trace (omega arith) sound.begun;
      in_order = in_order-told w.params.ttd w.trace w.now now 0 w.taps
          (let some : d ≡ 0 → ⊥ = eqb-false d 0 none.0 in grind (arith, some)) sound.begun none.1.0 sound.in_order;
      sayable = sayable-told w.params.ttd w.trace w.now now 0 w.taps sound.sayable;
    })

-- ---- Damage and Start

sound-damage : (w : World) (tap speaker : ℕ) (place : Option ℕ) (at from : Option Tap) → IsSound w → IsSound (world_after w (step_damage w tap speaker place at from))
sound-damage w tap speaker place at from sound =
    let in_air = is_in_air_by w.params.ttd w.now speaker in
    let hit : Hit = record { tap = tap; place = place } in
    world_after-unless IsSound w (record w { trace = change_first in_air (with_hit hit) w.trace }) (record { now = w.now; spoke = None })
    ((is_none at || is_none from, NoSuchTap) ∷ (tap == speaker || not (has_place (find in_air w.trace) place), NothingInAir) ∷ [])
    sound
    (λ _. record { begun = begun-change_first w.now in_air (with_hit hit) w.trace (lengthens-with_hit hit) sound.begun; in_order = sound.in_order; sayable = sound.sayable })

sound-start : (w : World) (tap : ℕ) (o : Option Tap) → slice_get w.taps tap ≡ o → IsSound w → IsSound (world_after w (step_start w tap o))
sound-start w tap None e sound = sound
sound-start w tap (Some t) e sound =
    world_after-unless IsSound w (record w { taps = slice_set w.taps tap (started_tap w tap t) }) (record { now = w.now; spoke = None })
    ((t.running || list_any (is_in_air_by w.params.ttd w.now tap) w.trace, Running) ∷ [])
    sound
    (λ _. record {
      begun = sound.begun;
      in_order = in_order-set w.now w.taps tap (started_tap w tap t) (omega arith) (omega arith) sound.in_order;
      sayable = sayable-set w.taps tap (started_tap w tap t) (tt, cycles-started w.params t.station t.spec.master w.now (sayable-at w.taps tap t sound.sayable e).1) sound.sayable;
    })

-- ---- Stop and Queue

sound-stop : (w : World) (tap : ℕ) (o : Option Tap) → slice_get w.taps tap ≡ o → IsSound w → IsSound (world_after w (step_stop w tap o))
sound-stop w tap None e sound = sound
sound-stop w tap (Some t) e sound =
    world_after-unless IsSound w (record w { trace = map (cut_at w.now tap) w.trace; taps = slice_set w.taps tap (halted t) }) (record { now = w.now; spoke = None })
    ((not t.running, NotRunning) ∷ [])
    sound
    (λ _. record {
      begun = begun-cut_at w.now tap w.trace sound.begun;
      in_order = in_order-set w.now w.taps tap (halted t) (started-at w.now w.taps tap t sound.in_order e) (omega arith) sound.in_order;
      sayable = sayable-set w.taps tap (halted t) (tt, (sayable-at w.taps tap t sound.sayable e).1) sound.sayable;
    })

order-at : (now : ℕ) (ts : List Tap) (i : ℕ) (t : Tap) → AllInOrder now ts → slice_get ts i ≡ Some t → InOrder 0 t.marks now
order-at now [] i t all e = absurd (none-some t e)
order-at now (x ∷ xs) zero t all e = subst (λ (y : Tap). InOrder 0 y.marks now) (same_Some x t e) all.1
order-at now (x ∷ xs) (suc i) t all e = order-at now xs i t all.2 e

sound-queue : (w : World) (tap : ℕ) (r : RequestFields) (o : Option Tap) → slice_get w.taps tap ≡ o → IsRequest r → IsSound w → IsSound (world_after w (step_queue w tap r o))
sound-queue w tap r None e is sound = sound
sound-queue w tap r (Some t) e is sound =
    world_after-unless IsSound w (record w { taps = slice_set w.taps tap (record t { station = pushed t.station r }) }) (record { now = w.now; spoke = None })
    ((not (t.running && t.spec.master), NotRunning) ∷ (nat_le queue_limit (length (list_for t.station.cycles.queue r)), QueueFull) ∷ [])
    sound
    (λ _. record {
      begun = sound.begun;
      in_order = in_order-set w.now w.taps tap (record t { station = pushed t.station r }) (started-at w.now w.taps tap t sound.in_order e) (order-at w.now w.taps tap t sound.in_order e) sound.in_order;
      sayable = let has = sayable-at w.taps tap t sound.sayable e in
          sayable-set w.taps tap (record t { station = pushed t.station r }) (has.0, cycles-pushed t.station r has.1 is) sound.sayable;
    })

-- ---- Noise and Unheard

pub begun-with_noise : (w : World) (bits : ℕ) (noisy : Bool) → 0 < bits → AllBegun w.now w.trace → AllBegun w.now (with_noise w.now (w.now + bits) noisy w.trace)
begun-with_noise w bits true some all = begun-change_first w.now (is_noise_at w.now) (noisy_until (w.now + bits)) w.trace (lengthens-noisy_until (w.now + bits)) all
begun-with_noise w bits false some all = begun-with_entry w.now (Noise (record { begin = w.now; end = w.now + bits })) w.trace (omega arith) (omega (arith, some)) all

sound-noise : (w : World) (bits : ℕ) (noisy : Bool) → IsSound w → IsSound (world_after w (step_noise w bits noisy))
sound-noise w bits noisy sound =
    world_after-unless IsSound w (record w { trace = with_noise w.now (w.now + bits) noisy w.trace }) (record { now = w.now; spoke = None })
    ((bits == 0, ZeroTime) ∷ (not noisy && nat_le w.limit (length w.trace), TraceFull) ∷ [])
    sound
    (λ none. record {
      begun = begun-with_noise w bits noisy (let some : bits ≡ 0 → ⊥ = eqb-false bits 0 none.0 in grind (arith, some)) sound.begun;
      in_order = sound.in_order;
      sayable = sound.sayable;
    })

sound-unheard : (w : World) (tap speaker : ℕ) (at from : Option Tap) → IsSound w → IsSound (world_after w (step_unheard w tap speaker at from))
sound-unheard w tap speaker at from sound =
    let begins = begins_from w.now speaker in
    world_after-unless IsSound w (record w { trace = change_first begins (unheard_at tap) w.trace }) (record { now = w.now; spoke = None })
    ((is_none at || is_none from, NoSuchTap) ∷ (tap == speaker || not (list_any begins w.trace), NothingInAir) ∷ [])
    sound
    (λ _. record {
      begun = begun-change_first w.now begins (unheard_at tap) w.trace (lengthens-unheard_at tap) sound.begun;
      in_order = sound.in_order;
      sayable = sound.sayable;
    })

-- ---- every event

pub sound-step : (w : World) (e : Event) → IsEvent e → IsSound w → IsSound (world_after w (step w e))
sound-step w (Turn tap) is sound = sound-turn w tap (slice_get w.taps tap) refl sound
sound-step w (Pass d) is sound = sound-pass w d sound
sound-step w (Damage tap speaker place) is sound = sound-damage w tap speaker place (slice_get w.taps tap) (slice_get w.taps speaker) sound
sound-step w (Start tap) is sound = sound-start w tap (slice_get w.taps tap) refl sound
sound-step w (Stop tap) is sound = sound-stop w tap (slice_get w.taps tap) refl sound
sound-step w (Queue tap r) is sound = sound-queue w tap r (slice_get w.taps tap) refl is sound
sound-step w (world.Noise bits) is sound = sound-noise w bits (is_noisy w) sound
sound-step w (world.Unheard tap speaker) is sound = sound-unheard w tap speaker (slice_get w.taps tap) (slice_get w.taps speaker) sound

pub sound-replay : (w : World) (events : List Event) → AreEvents events → IsSound w → IsSound (replay w events)
sound-replay w [] are sound = sound
sound-replay w (e ∷ es) are sound = sound-replay (world_after w (step w e)) es are.1 (sound-step w e are.0 sound)

-- ---- a new world

sound-stopped_taps : (p : Params) (specs : List TapSpec) → AllInOrder 0 (map (stopped_tap p) specs)
sound-stopped_taps p [] = tt
sound-stopped_taps p (spec ∷ specs) = (omega arith, omega arith, sound-stopped_taps p specs)

pub sayable-stopped_taps : (p : Params) (specs : List TapSpec) → AllFit specs → AllSayable (map (stopped_tap p) specs)
sayable-stopped_taps p [] fit = tt
sayable-stopped_taps p (spec ∷ specs) fit = ((tt, cycles-new p spec.address spec.reply fit.0), sayable-stopped_taps p specs fit.1)

-- what a call that was not refused gives
pub unless-Ok : {F X : Type 0} (tests : List (Bool × F)) (x y : X) → unless tests x ≡ Ok y → NoneHolds tests × (x ≡ y)
unless-Ok {F} {X} tests x y = by_fault (first_fault tests) refl
  where
    by_fault : (o : Option F) → first_fault tests ≡ o → unless_fault o x ≡ Ok y → NoneHolds tests × (x ≡ y)
    by_fault None e ok = (none_holds tests e, cc)
    by_fault (Some fault) e ok = absurd cc

pub sound-new_world : (p : Params) (specs : List TapSpec) (w : World) → AllFit specs → IsNewWorld p specs w → IsSound w
sound-new_world p specs w fit new =
    let made : World = record { params = p; now = 0; trace = []; taps = map (stopped_tap p) specs; limit = new.0 } in
    let same = unless-Ok (new_faults p specs) made w new.1 in
    subst IsSound same.1 (record { begun = tt; in_order = sound-stopped_taps p specs; sayable = sayable-stopped_taps p specs fit })

-- ---- the clock

later-turn : (w : World) (tap : ℕ) (o : Option Tap) → w.now ≤ (world_after w (step_turn w tap o)).now
later-turn w tap None = omega arith
later-turn w tap (Some t) =
    let turn = turn_of w.params t.station t.marks w.now in
    world_after-unless (λ (x : World). w.now ≤ x.now) w
    (record w { trace = with_said tap turn.1 w.now w.taps w.trace; taps = slice_set w.taps tap (record t { station = turn.0; marks = [] }) })
    (record { now = w.now; spoke = turn.1 })
    ((not t.running, NotRunning) ∷ (is_some turn.1 && nat_le w.limit (length w.trace), TraceFull) ∷ [])
    (omega arith) (λ _. omega arith)

later-pass : (w : World) (d : ℕ) → w.now ≤ (world_after w (step_pass w d)).now
later-pass w d =
    let now = w.now + d in
    let taps = told w.params.ttd w.trace w.now now 0 w.taps in
    world_after-unless (λ (x : World). w.now ≤ x.now) w (record w { now = now; taps = taps; trace = map (entry_at w.params.ttd w.taps w.trace w.now now) w.trace })
    (record { now = now; spoke = None }) (pass_faults w d taps) (omega arith) (λ _. omega arith)

later-damage : (w : World) (tap speaker : ℕ) (place : Option ℕ) (at from : Option Tap) → w.now ≤ (world_after w (step_damage w tap speaker place at from)).now
later-damage w tap speaker place at from =
    let in_air = is_in_air_by w.params.ttd w.now speaker in
    let hit : Hit = record { tap = tap; place = place } in
    world_after-unless (λ (x : World). w.now ≤ x.now) w (record w { trace = change_first in_air (with_hit hit) w.trace }) (record { now = w.now; spoke = None })
    ((is_none at || is_none from, NoSuchTap) ∷ (tap == speaker || not (has_place (find in_air w.trace) place), NothingInAir) ∷ [])
    (omega arith) (λ _. omega arith)

later-start : (w : World) (tap : ℕ) (o : Option Tap) → w.now ≤ (world_after w (step_start w tap o)).now
later-start w tap None = omega arith
later-start w tap (Some t) =
    world_after-unless (λ (x : World). w.now ≤ x.now) w (record w { taps = slice_set w.taps tap (started_tap w tap t) }) (record { now = w.now; spoke = None })
    ((t.running || list_any (is_in_air_by w.params.ttd w.now tap) w.trace, Running) ∷ [])
    (omega arith) (λ _. omega arith)

later-stop : (w : World) (tap : ℕ) (o : Option Tap) → w.now ≤ (world_after w (step_stop w tap o)).now
later-stop w tap None = omega arith
later-stop w tap (Some t) =
    world_after-unless (λ (x : World). w.now ≤ x.now) w (record w { trace = map (cut_at w.now tap) w.trace; taps = slice_set w.taps tap (halted t) }) (record { now = w.now; spoke = None })
    ((not t.running, NotRunning) ∷ []) (omega arith) (λ _. omega arith)

later-queue : (w : World) (tap : ℕ) (r : RequestFields) (o : Option Tap) → w.now ≤ (world_after w (step_queue w tap r o)).now
later-queue w tap r None = omega arith
later-queue w tap r (Some t) =
    world_after-unless (λ (x : World). w.now ≤ x.now) w (record w { taps = slice_set w.taps tap (record t { station = pushed t.station r }) }) (record { now = w.now; spoke = None })
    ((not (t.running && t.spec.master), NotRunning) ∷ (nat_le queue_limit (length (list_for t.station.cycles.queue r)), QueueFull) ∷ [])
    (omega arith) (λ _. omega arith)

later-noise : (w : World) (bits : ℕ) (noisy : Bool) → w.now ≤ (world_after w (step_noise w bits noisy)).now
later-noise w bits noisy =
    world_after-unless (λ (x : World). w.now ≤ x.now) w (record w { trace = with_noise w.now (w.now + bits) noisy w.trace }) (record { now = w.now; spoke = None })
    ((bits == 0, ZeroTime) ∷ (not noisy && nat_le w.limit (length w.trace), TraceFull) ∷ []) (omega arith) (λ _. omega arith)

later-unheard : (w : World) (tap speaker : ℕ) (at from : Option Tap) → w.now ≤ (world_after w (step_unheard w tap speaker at from)).now
later-unheard w tap speaker at from =
    let begins = begins_from w.now speaker in
    world_after-unless (λ (x : World). w.now ≤ x.now) w (record w { trace = change_first begins (unheard_at tap) w.trace }) (record { now = w.now; spoke = None })
    ((is_none at || is_none from, NoSuchTap) ∷ (tap == speaker || not (list_any begins w.trace), NothingInAir) ∷ [])
    (omega arith) (λ _. omega arith)

later-step : (w : World) (e : Event) → w.now ≤ (world_after w (step w e)).now
later-step w (Turn tap) = later-turn w tap (slice_get w.taps tap)
later-step w (Pass d) = later-pass w d
later-step w (Damage tap speaker place) = later-damage w tap speaker place (slice_get w.taps tap) (slice_get w.taps speaker)
later-step w (Start tap) = later-start w tap (slice_get w.taps tap)
later-step w (Stop tap) = later-stop w tap (slice_get w.taps tap)
later-step w (Queue tap r) = later-queue w tap r (slice_get w.taps tap)
later-step w (world.Noise bits) = later-noise w bits (is_noisy w)
later-step w (world.Unheard tap speaker) = later-unheard w tap speaker (slice_get w.taps tap) (slice_get w.taps speaker)

-- the clock never falls
pub later-replay : (w : World) (events : List Event) → w.now ≤ (replay w events).now
later-replay w [] = omega arith
later-replay w (e ∷ es) = omega (arith, later-step w e, later-replay (world_after w (step w e)) es)

-- a refused event changes nothing
pub replay-refused : (w : World) (e : Event) (fault : Fault) → step w e ≡ Err fault → replay w (e ∷ []) ≡ w
replay-refused w e fault refused = ap (world_after w) refused
