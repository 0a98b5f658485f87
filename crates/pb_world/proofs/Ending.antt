-- No event puts something into the air that ends too late to be a moment.
use Rattle.std.proofs.Common.{◌≡◌, ℕ, ◌+◌, ◌<◌, ◌≤◌, List, [], ◌∷◌, length, map, Bool, true, false, not, ◌||◌, ◌&&◌, ◌==◌, refl, ap, subst, arith, Option, Some, None, Ok}
use Rattle.std.specs.Prelude.{IfSome, nat_le, slice_get, slice_set, is_some, is_none, find}
use Rattle.std.specs.List.{list_any}
use Rattle.pb_cycles.specs.RequestFields.{RequestFields}
use Rattle.law_turn.specs.Stations.{list_for, pushed}
use Rattle.law_turn.specs.Turns.{turn_of}
use Rattle.law_turn.proofs.Initiating.{fits-turn_of}
use Rattle.law_model.specs.Trace.{Hit, Entry, Sent, Noise, entry_end, goes_before, with_entry, cut_end, cut_at, is_noise_at, noisy_until, begins_from, unheard_at}
use Rattle.law_model.specs.Medium.{Tap, reaches, ends_between, entry_at, heard_by}
use Rattle.law_model.specs.World as world
use Rattle.law_model.specs.World.{World, Event, Turn, Pass, Damage, Start, Stop, Queue, Reply, NoSuchTap, Running, NotRunning, NothingInAir, ZeroTime, QueueFull, TraceFull, clock_limit, trace_limit, is_in_air_by, queue_limit}
use Rattle.law_model.specs.Step.{sending, with_said, step_turn, told, pass_faults, step_pass, with_hit, change_first, has_place, step_damage, started_tap, step_start, halted, step_stop, step_queue, with_noise, is_noisy, step_noise, step_unheard, step, world_after}
use Rattle.law_model.specs.Laws.{IsSound}
use Rattle.law_model.proofs.Cases.{by_test}
use Rattle.law_model.proofs.Worlds.{world_after-unless, sayable-at}
use Rattle.pb_world.specs.Ends.{last_end, longest, AllBy, IsShort}

-- ---- lists of entries

-- a change after which an entry that ended by a moment still does
abbrev EndsBy : ℕ → (Entry → Entry) → Type 0
EndsBy m change = (e : Entry) → entry_end e ≤ m → entry_end (change e) ≤ m

by-with_hit : (m : ℕ) (hit : Hit) → EndsBy m (with_hit hit)
by-with_hit m hit (Noise span) by = by
by-with_hit m hit (Sent r) by = by

by-noisy_until : (m end : ℕ) → end ≤ m → EndsBy m (noisy_until end)
by-noisy_until m end early (Noise span) by = omega (arith, early, by)
by-noisy_until m end early (Sent r) by = by

by-unheard_at : (m tap : ℕ) → EndsBy m (unheard_at tap)
by-unheard_at m tap (Noise span) by = by
by-unheard_at m tap (Sent r) by = by

by-change_first : (m : ℕ) (test : Entry → Bool) (change : Entry → Entry) (es : List Entry) → EndsBy m change → AllBy m es → AllBy m (change_first test change es)
by-change_first m test change [] same all = tt
by-change_first m test change (e ∷ es) same all =
    by_test (λ (xs : List Entry). AllBy m xs) (test e) (change e ∷ es) (e ∷ change_first test change es)
    (λ _. (same e all.0, all.1)) (λ _. (all.0, by-change_first m test change es same all.1))

by-with_entry : (m : ℕ) (e : Entry) (es : List Entry) → entry_end e ≤ m → AllBy m es → AllBy m (with_entry e es)
by-with_entry m e [] by all = (by, tt)
by-with_entry m e (x ∷ xs) by all =
    by_test (λ (ys : List Entry). AllBy m ys) (goes_before e x) (e ∷ x ∷ xs) (x ∷ with_entry e xs)
    (λ _. (by, all)) (λ _. (all.0, by-with_entry m e xs by all.1))

by-cut_at : (m now tap : ℕ) (es : List Entry) → AllBy m es → AllBy m (map (cut_at now tap) es)
by-cut_at m now tap [] all = tt
by-cut_at m now tap (Noise span ∷ es) all = (all.0, by-cut_at m now tap es all.1)
by-cut_at m now tap (Sent r ∷ es) all =
    by_test (λ x. AllBy m (Sent x ∷ map (cut_at now tap) es)) (r.tap == tap) (record r { end = cut_end now r }) r
    (λ _. (omega (arith, all.0), by-cut_at m now tap es all.1)) (λ _. (all.0, by-cut_at m now tap es all.1))

by-entry_at : (m delay : ℕ) (taps : List Tap) (trace : List Entry) (from to : ℕ) (es : List Entry) → AllBy m es → AllBy m (map (entry_at delay taps trace from to) es)
by-entry_at m delay taps trace from to [] all = tt
by-entry_at m delay taps trace from to (Noise span ∷ es) all = (all.0, by-entry_at m delay taps trace from to es all.1)
by-entry_at m delay taps trace from to (Sent r ∷ es) all =
    by_test (λ (e : Entry). AllBy m (e ∷ map (entry_at delay taps trace from to) es)) (ends_between from to (reaches delay r))
    (Sent (record r { heard = heard_by delay trace r 0 taps r.heard })) (Sent r)
    (λ _. (all.0, by-entry_at m delay taps trace from to es all.1)) (λ _. (all.0, by-entry_at m delay taps trace from to es all.1))

by-with_said : (w : World) (tap : ℕ) (o : Option (List ℕ)) → w.now ≤ clock_limit → IfSome o (λ octets. (0 < length octets) × (length octets ≤ 255)) → AllBy last_end w.trace
    → AllBy last_end (with_said tap o w.now w.taps w.trace)
by-with_said w tap None clock fits all = all
by-with_said w tap (Some octets) clock fits all =
    by-with_entry last_end (Sent (sending tap octets w.now w.taps)) w.trace (omega (arith, clock, fits.1)) all

by-with_noise : (w : World) (bits : ℕ) (noisy : Bool) → w.now ≤ clock_limit → bits ≤ longest → AllBy last_end w.trace
    → AllBy last_end (with_noise w.now (w.now + bits) noisy w.trace)
by-with_noise w bits true clock short all = by-change_first last_end (is_noise_at w.now) (noisy_until (w.now + bits)) w.trace (by-noisy_until last_end (w.now + bits) (omega (arith, clock, short))) all
by-with_noise w bits false clock short all = by-with_entry last_end (Noise (record { begin = w.now; end = w.now + bits })) w.trace (omega (arith, clock, short)) all

-- ---- events

abbrev EndsInTime : World → Type 0
EndsInTime w = AllBy last_end w.trace

in-time-turn : (w : World) (tap : ℕ) (o : Option Tap) → slice_get w.taps tap ≡ o → w.now ≤ clock_limit → IsSound w → EndsInTime w → EndsInTime (world_after w (step_turn w tap o))
in-time-turn w tap None e clock sound by = by
in-time-turn w tap (Some t) e clock sound by =
    let turn = turn_of w.params t.station t.marks w.now in
    let has = sayable-at w.taps tap t sound.sayable e in
    world_after-unless EndsInTime w
    (record w { trace = with_said tap turn.1 w.now w.taps w.trace; taps = slice_set w.taps tap (record t { station = turn.0; marks = [] }) })
    (record { now = w.now; spoke = turn.1 })
    ((not t.running, NotRunning) ∷ (is_some turn.1 && nat_le w.limit (length w.trace), TraceFull) ∷ [])
    by
    (λ _. by-with_said w tap turn.1 clock (fits-turn_of w.params t.station t.marks w.now has) by)

in-time-pass : (w : World) (d : ℕ) → EndsInTime w → EndsInTime (world_after w (step_pass w d))
in-time-pass w d by =
    let now = w.now + d in
    let taps = told w.params.ttd w.trace w.now now 0 w.taps in
    world_after-unless EndsInTime w (record w { now = now; taps = taps; trace = map (entry_at w.params.ttd w.taps w.trace w.now now) w.trace }) (record { now = now; spoke = None })
    (pass_faults w d taps) by
    (λ _. by-entry_at last_end w.params.ttd w.taps w.trace w.now now w.trace by)

in-time-damage : (w : World) (tap speaker : ℕ) (place : Option ℕ) (at from : Option Tap) → EndsInTime w → EndsInTime (world_after w (step_damage w tap speaker place at from))
in-time-damage w tap speaker place at from by =
    let in_air = is_in_air_by w.params.ttd w.now speaker in
    let hit : Hit = record { tap = tap; place = place } in
    world_after-unless EndsInTime w (record w { trace = change_first in_air (with_hit hit) w.trace }) (record { now = w.now; spoke = None })
    ((is_none at || is_none from, NoSuchTap) ∷ (tap == speaker || not (has_place (find in_air w.trace) place), NothingInAir) ∷ [])
    by
    (λ _. by-change_first last_end in_air (with_hit hit) w.trace (by-with_hit last_end hit) by)

in-time-start : (w : World) (tap : ℕ) (o : Option Tap) → EndsInTime w → EndsInTime (world_after w (step_start w tap o))
in-time-start w tap None by = by
in-time-start w tap (Some t) by =
    world_after-unless EndsInTime w (record w { taps = slice_set w.taps tap (started_tap w tap t) }) (record { now = w.now; spoke = None })
    ((t.running || list_any (is_in_air_by w.params.ttd w.now tap) w.trace, Running) ∷ [])
    by (λ _. by)

in-time-stop : (w : World) (tap : ℕ) (o : Option Tap) → EndsInTime w → EndsInTime (world_after w (step_stop w tap o))
in-time-stop w tap None by = by
in-time-stop w tap (Some t) by =
    world_after-unless EndsInTime w (record w { trace = map (cut_at w.now tap) w.trace; taps = slice_set w.taps tap (halted t) }) (record { now = w.now; spoke = None })
    ((not t.running, NotRunning) ∷ [])
    by (λ _. by-cut_at last_end w.now tap w.trace by)

in-time-queue : (w : World) (tap : ℕ) (r : RequestFields) (o : Option Tap) → EndsInTime w → EndsInTime (world_after w (step_queue w tap r o))
in-time-queue w tap r None by = by
in-time-queue w tap r (Some t) by =
    world_after-unless EndsInTime w (record w { taps = slice_set w.taps tap (record t { station = pushed t.station r }) }) (record { now = w.now; spoke = None })
    ((not (t.running && t.spec.master), NotRunning) ∷ (nat_le queue_limit (length (list_for t.station.cycles.queue r)), QueueFull) ∷ [])
    by (λ _. by)

in-time-noise : (w : World) (bits : ℕ) (noisy : Bool) → w.now ≤ clock_limit → bits ≤ longest → EndsInTime w → EndsInTime (world_after w (step_noise w bits noisy))
in-time-noise w bits noisy clock short by =
    world_after-unless EndsInTime w (record w { trace = with_noise w.now (w.now + bits) noisy w.trace }) (record { now = w.now; spoke = None })
    ((bits == 0, ZeroTime) ∷ (not noisy && nat_le w.limit (length w.trace), TraceFull) ∷ [])
    by (λ _. by-with_noise w bits noisy clock short by)

in-time-unheard : (w : World) (tap speaker : ℕ) (at from : Option Tap) → EndsInTime w → EndsInTime (world_after w (step_unheard w tap speaker at from))
in-time-unheard w tap speaker at from by =
    let begins = begins_from w.now speaker in
    world_after-unless EndsInTime w (record w { trace = change_first begins (unheard_at tap) w.trace }) (record { now = w.now; spoke = None })
    ((is_none at || is_none from, NoSuchTap) ∷ (tap == speaker || not (list_any begins w.trace), NothingInAir) ∷ [])
    by (λ _. by-change_first last_end begins (unheard_at tap) w.trace (by-unheard_at last_end tap) by)

in-time-step : (w : World) (e : Event) → IsShort e → w.now ≤ clock_limit → IsSound w → EndsInTime w → EndsInTime (world_after w (step w e))
in-time-step w (Turn tap) short clock sound by = in-time-turn w tap (slice_get w.taps tap) refl clock sound by
in-time-step w (Pass d) short clock sound by = in-time-pass w d by
in-time-step w (Damage tap speaker place) short clock sound by = in-time-damage w tap speaker place (slice_get w.taps tap) (slice_get w.taps speaker) by
in-time-step w (Start tap) short clock sound by = in-time-start w tap (slice_get w.taps tap) by
in-time-step w (Stop tap) short clock sound by = in-time-stop w tap (slice_get w.taps tap) by
in-time-step w (Queue tap r) short clock sound by = in-time-queue w tap r (slice_get w.taps tap) by
in-time-step w (world.Noise bits) short clock sound by = in-time-noise w bits (is_noisy w) clock short by
in-time-step w (world.Unheard tap speaker) short clock sound by = in-time-unheard w tap speaker (slice_get w.taps tap) (slice_get w.taps speaker) by

-- what an event that is taken leads to ends in time, as what came before it did
pub in-time : (w : World) (e : Event) (next : World) (reply : Reply) → step w e ≡ Ok (next, reply) → IsShort e → w.now ≤ clock_limit → IsSound w → AllBy last_end w.trace → AllBy last_end next.trace
in-time w e next reply ok short clock sound by = subst EndsInTime (ap (world_after w) ok) (in-time-step w e short clock sound by)
