-- Entries that begin no earlier than a moment, once that has passed: so do all that come later.
use Rattle.std.proofs.Common.{◌≡◌, refl, subst, arith, ℕ, ◌+◌, ◌≤◌, ◌==◌, ◌||◌, ◌&&◌, nat_le, List, [], ◌∷◌, length, map, Bool, true, false, not, Option, Some, None, Ok}
use Rattle.std.specs.Prelude.{find, is_none, is_some, slice_get, slice_set}
use Rattle.std.specs.List.{list_any}
use Rattle.pb_cycles.specs.RequestFields.{RequestFields}
use Rattle.law_turn.specs.Stations.{list_for, pushed}
use Rattle.law_turn.specs.Turns.{turn_of}
use Rattle.law_model.specs.Trace as trace
use Rattle.law_model.specs.Trace.{Entry, Hit, Record, Sent, begins_from, cut_at, cut_end, entry_begin, goes_before, is_noise_at, noisy_until, unheard_at, with_entry}
use Rattle.law_model.specs.Medium.{Tap, ends_between, entry_at, heard_by, reaches}
use Rattle.law_model.specs.World.{World, Event, Turn, Pass, Damage, Start, Stop, Queue, Noise, Unheard, Reply, NoSuchTap, Running, NotRunning, NothingInAir, ZeroTime, QueueFull, TraceFull, is_in_air_by, queue_limit}
use Rattle.law_model.specs.Step.{change_first, halted, has_place, is_noisy, pass_faults, sending, started_tap, step, step_damage, step_noise, step_pass, step_queue, step_start, step_stop, step_turn, step_unheard, told, with_hit, with_noise, with_said, world_after}
use Rattle.law_model.proofs.Cases.{by_test}
use Rattle.law_model.proofs.Worlds.{world_after-unless}
use Rattle.law_streams.specs.Laws.{AllSince}

-- ---- a change that leaves each entry its begin

abbrev KeepsBegin : (Entry → Entry) → Type 0
KeepsBegin change = (e : Entry) → entry_begin (change e) ≡ entry_begin e

keeps-hit : (hit : Hit) → KeepsBegin (with_hit hit)
keeps-hit hit (trace.Noise span) = refl
keeps-hit hit (Sent r) = refl

keeps-noisy : (end : ℕ) → KeepsBegin (noisy_until end)
keeps-noisy end (trace.Noise span) = refl
keeps-noisy end (Sent r) = refl

keeps-unheard : (tap : ℕ) → KeepsBegin (unheard_at tap)
keeps-unheard tap (trace.Noise span) = refl
keeps-unheard tap (Sent r) = refl

keeps-cut : (now tap : ℕ) → KeepsBegin (cut_at now tap)
keeps-cut now tap (trace.Noise span) = refl
keeps-cut now tap (Sent r) = by_test (λ (x : Record). x.begin ≡ r.begin) (r.tap == tap) (record r { end = cut_end now r }) r (λ _. refl) (λ _. refl)

keeps-at : (delay : ℕ) (taps : List Tap) (es : List Entry) (now to : ℕ) → KeepsBegin (entry_at delay taps es now to)
keeps-at delay taps es now to (trace.Noise span) = refl
keeps-at delay taps es now to (Sent r) =
    by_test (λ (e : Entry). entry_begin e ≡ r.begin) (ends_between now to (reaches delay r)) (Sent (record r { heard = heard_by delay es r 0 taps r.heard })) (Sent r)
    (λ _. refl) (λ _. refl)

since-map : (m : ℕ) (change : Entry → Entry) (es : List Entry) → KeepsBegin change → AllSince m es → AllSince m (map change es)
since-map m change [] keeps all = tt
since-map m change (e ∷ es) keeps all = (omega (arith, keeps e, all.0), since-map m change es keeps all.1)

since-first : (m : ℕ) (test : Entry → Bool) (change : Entry → Entry) (es : List Entry) → KeepsBegin change → AllSince m es → AllSince m (change_first test change es)
since-first m test change [] keeps all = tt
since-first m test change (e ∷ es) keeps all =
    by_test (λ (xs : List Entry). AllSince m xs) (test e) (change e ∷ es) (e ∷ change_first test change es)
    (λ _. (omega (arith, keeps e, all.0), all.1)) (λ _. (all.0, since-first m test change es keeps all.1))

-- ---- a new entry

since-entry : (m : ℕ) (e : Entry) (es : List Entry) → m ≤ entry_begin e → AllSince m es → AllSince m (with_entry e es)
since-entry m e [] later all = (later, tt)
since-entry m e (x ∷ es) later all =
    by_test (λ (xs : List Entry). AllSince m xs) (goes_before e x) (e ∷ x ∷ es) (x ∷ with_entry e es)
    (λ _. (later, all)) (λ _. (all.0, since-entry m e es later all.1))

since-said : (m tap : ℕ) (said : Option (List ℕ)) (now : ℕ) (ts : List Tap) (es : List Entry) → m ≤ now → AllSince m es → AllSince m (with_said tap said now ts es)
since-said m tap None now ts es later all = all
since-said m tap (Some octets) now ts es later all = since-entry m (Sent (sending tap octets now ts)) es later all

since-noise : (m now end : ℕ) (noisy : Bool) (es : List Entry) → m ≤ now → AllSince m es → AllSince m (with_noise now end noisy es)
since-noise m now end true es later all = since-first m (is_noise_at now) (noisy_until end) es (keeps-noisy end) all
since-noise m now end false es later all = since-entry m (trace.Noise (record { begin = now; end = end })) es later all

-- ---- each event

-- the moment has passed, and no entry of the trace begins before it
abbrev pub IsSince : ℕ → World → Type 0
IsSince m w = (m ≤ w.now) × AllSince m w.trace

at-turn : (m : ℕ) (w : World) (tap : ℕ) (o : Option Tap) → IsSince m w → IsSince m (world_after w (step_turn w tap o))
at-turn m w tap None is = is
at-turn m w tap (Some t) is =
    let turn = turn_of w.params t.station t.marks w.now in
    world_after-unless (IsSince m) w
    (record w { trace = with_said tap turn.1 w.now w.taps w.trace; taps = slice_set w.taps tap (record t { station = turn.0; marks = [] }) })
    (record { now = w.now; spoke = turn.1 })
    ((not t.running, NotRunning) ∷ (is_some turn.1 && nat_le w.limit (length w.trace), TraceFull) ∷ [])
    is (λ _. (is.0, since-said m tap turn.1 w.now w.taps w.trace is.0 is.1))

at-pass : (m : ℕ) (w : World) (d : ℕ) → IsSince m w → IsSince m (world_after w (step_pass w d))
at-pass m w d is =
    let now = w.now + d in
    let taps = told w.params.ttd w.trace w.now now 0 w.taps in
    let change = entry_at w.params.ttd w.taps w.trace w.now now in
    world_after-unless (IsSince m) w (record w { now = now; taps = taps; trace = map change w.trace }) (record { now = now; spoke = None }) (pass_faults w d taps)
    is (λ _. (omega (arith, is.0), since-map m change w.trace (keeps-at w.params.ttd w.taps w.trace w.now now) is.1))

at-damage : (m : ℕ) (w : World) (tap speaker : ℕ) (place : Option ℕ) (at from : Option Tap) → IsSince m w → IsSince m (world_after w (step_damage w tap speaker place at from))
at-damage m w tap speaker place at from is =
    let test = is_in_air_by w.params.ttd w.now speaker in
    let hit : Hit = record { tap = tap; place = place } in
    world_after-unless (IsSince m) w (record w { trace = change_first test (with_hit hit) w.trace }) (record { now = w.now; spoke = None })
    ((is_none at || is_none from, NoSuchTap) ∷ (tap == speaker || not (has_place (find test w.trace) place), NothingInAir) ∷ [])
    is (λ _. (is.0, since-first m test (with_hit hit) w.trace (keeps-hit hit) is.1))

at-start : (m : ℕ) (w : World) (tap : ℕ) (o : Option Tap) → IsSince m w → IsSince m (world_after w (step_start w tap o))
at-start m w tap None is = is
at-start m w tap (Some t) is =
    world_after-unless (IsSince m) w (record w { taps = slice_set w.taps tap (started_tap w tap t) }) (record { now = w.now; spoke = None })
    ((t.running || list_any (is_in_air_by w.params.ttd w.now tap) w.trace, Running) ∷ []) is (λ _. (is.0, is.1))

at-stop : (m : ℕ) (w : World) (tap : ℕ) (o : Option Tap) → IsSince m w → IsSince m (world_after w (step_stop w tap o))
at-stop m w tap None is = is
at-stop m w tap (Some t) is =
    world_after-unless (IsSince m) w (record w { trace = map (cut_at w.now tap) w.trace; taps = slice_set w.taps tap (halted t) }) (record { now = w.now; spoke = None })
    ((not t.running, NotRunning) ∷ []) is (λ _. (is.0, since-map m (cut_at w.now tap) w.trace (keeps-cut w.now tap) is.1))

at-queue : (m : ℕ) (w : World) (tap : ℕ) (r : RequestFields) (o : Option Tap) → IsSince m w → IsSince m (world_after w (step_queue w tap r o))
at-queue m w tap r None is = is
at-queue m w tap r (Some t) is =
    world_after-unless (IsSince m) w (record w { taps = slice_set w.taps tap (record t { station = pushed t.station r }) }) (record { now = w.now; spoke = None })
    ((not (t.running && t.spec.master), NotRunning) ∷ (nat_le queue_limit (length (list_for t.station.cycles.queue r)), QueueFull) ∷ [])
    is (λ _. (is.0, is.1))

at-noise : (m : ℕ) (w : World) (bits : ℕ) (noisy : Bool) → IsSince m w → IsSince m (world_after w (step_noise w bits noisy))
at-noise m w bits noisy is =
    world_after-unless (IsSince m) w (record w { trace = with_noise w.now (w.now + bits) noisy w.trace }) (record { now = w.now; spoke = None })
    ((bits == 0, ZeroTime) ∷ (not noisy && nat_le w.limit (length w.trace), TraceFull) ∷ [])
    is (λ _. (is.0, since-noise m w.now (w.now + bits) noisy w.trace is.0 is.1))

at-unheard : (m : ℕ) (w : World) (tap speaker : ℕ) (at from : Option Tap) → IsSince m w → IsSince m (world_after w (step_unheard w tap speaker at from))
at-unheard m w tap speaker at from is =
    let test = begins_from w.now speaker in
    world_after-unless (IsSince m) w (record w { trace = change_first test (unheard_at tap) w.trace }) (record { now = w.now; spoke = None })
    ((is_none at || is_none from, NoSuchTap) ∷ (tap == speaker || not (list_any test w.trace), NothingInAir) ∷ [])
    is (λ _. (is.0, since-first m test (unheard_at tap) w.trace (keeps-unheard tap) is.1))

after : (m : ℕ) (w : World) (e : Event) → IsSince m w → IsSince m (world_after w (step w e))
after m w (Turn tap) is = at-turn m w tap (slice_get w.taps tap) is
after m w (Pass d) is = at-pass m w d is
after m w (Damage tap speaker place) is = at-damage m w tap speaker place (slice_get w.taps tap) (slice_get w.taps speaker) is
after m w (Start tap) is = at-start m w tap (slice_get w.taps tap) is
after m w (Stop tap) is = at-stop m w tap (slice_get w.taps tap) is
after m w (Queue tap r) is = at-queue m w tap r (slice_get w.taps tap) is
after m w (Noise bits) is = at-noise m w bits (is_noisy w) is
after m w (Unheard tap speaker) is = at-unheard m w tap speaker (slice_get w.taps tap) (slice_get w.taps speaker) is

pub since-step : (m : ℕ) (w next : World) (e : Event) (reply : Reply) → IsSince m w → step w e ≡ Ok (next, reply) → IsSince m next
since-step m w next e reply is ok = subst (λ o. IsSince m (world_after w o)) ok (after m w e is)
