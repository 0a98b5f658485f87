-- What is past stays past, whatever happens.
use Rattle.std.proofs.Common.{◌≡◌, refl, subst, arith, ℕ, ◌+◌, ◌≤◌, ◌==◌, ◌||◌, ◌&&◌, nat_le, List, [], ◌∷◌, length, map, Bool, true, false, not, Option, Some, None, Ok}
use Rattle.std.specs.Prelude.{find, is_none, is_some, slice_get, slice_set}
use Rattle.std.specs.List.{list_any}
use Rattle.pb_cycles.specs.RequestFields.{RequestFields}
use Rattle.law_turn.specs.Stations.{list_for, pushed}
use Rattle.law_turn.specs.Turns.{turn_of}
use Rattle.law_model.specs.Trace as trace
use Rattle.law_model.specs.Trace.{Entry, Hit, Record, Sent, begins_from, cut_at, cut_end, goes_before, is_noise_at, noisy_until, unheard_at, with_entry}
use Rattle.law_model.specs.Medium.{Tap, ends_between, entry_at, heard_by, reaches, reaches_taps}
use Rattle.law_model.specs.World.{World, Event, Turn, Pass, Damage, Start, Stop, Queue, Noise, Unheard, Reply, NoSuchTap, Running, NotRunning, NothingInAir, ZeroTime, QueueFull, TraceFull, is_in_air_by, queue_limit}
use Rattle.law_model.specs.Step.{change_first, halted, has_place, is_noisy, pass_faults, sending, started_tap, step, step_damage, step_noise, step_pass, step_queue, step_start, step_stop, step_turn, step_unheard, told, with_hit, with_noise, with_said, world_after}
use Rattle.law_model.specs.Laws.{AllFrom}
use Rattle.law_model.specs.Behind.{IsPast}
use Rattle.law_model.proofs.Cases.{by_test}
use Rattle.law_model.proofs.Worlds.{world_after-unless}

-- ---- entries that reach the taps no earlier than before

abbrev pub KeepsBegin : (Entry → Entry) → Type 0
KeepsBegin change = (delay : ℕ) (e : Entry) → (reaches_taps delay (change e)).begin ≡ (reaches_taps delay e).begin

keeps-hit : (hit : Hit) → KeepsBegin (with_hit hit)
keeps-hit hit delay (trace.Noise span) = refl
keeps-hit hit delay (Sent r) = refl

keeps-noisy : (end : ℕ) → KeepsBegin (noisy_until end)
keeps-noisy end delay (trace.Noise span) = refl
keeps-noisy end delay (Sent r) = refl

keeps-unheard : (tap : ℕ) → KeepsBegin (unheard_at tap)
keeps-unheard tap delay (trace.Noise span) = refl
keeps-unheard tap delay (Sent r) = refl

keeps-cut : (now tap : ℕ) → KeepsBegin (cut_at now tap)
keeps-cut now tap delay (trace.Noise span) = refl
keeps-cut now tap delay (Sent r) =
    by_test (λ (x : Record). x.begin + delay ≡ r.begin + delay) (r.tap == tap) (record r { end = cut_end now r }) r (λ _. refl) (λ _. refl)

keeps-at : (ttd : ℕ) (taps : List Tap) (es : List Entry) (from to : ℕ) → KeepsBegin (entry_at ttd taps es from to)
keeps-at ttd taps es from to delay (trace.Noise span) = refl
keeps-at ttd taps es from to delay (Sent r) =
    by_test (λ (e : Entry). (reaches_taps delay e).begin ≡ r.begin + delay) (ends_between from to (reaches ttd r))
    (Sent (record r { heard = heard_by ttd es r 0 taps r.heard })) (Sent r) (λ _. refl) (λ _. refl)

from-map : (delay m : ℕ) (change : Entry → Entry) (es : List Entry) → KeepsBegin change → AllFrom delay m es → AllFrom delay m (map change es)
from-map delay m change [] keeps all = tt
from-map delay m change (e ∷ es) keeps all = (omega (arith, keeps delay e, all.0), from-map delay m change es keeps all.1)

from-first : (delay m : ℕ) (test : Entry → Bool) (change : Entry → Entry) (es : List Entry) → KeepsBegin change → AllFrom delay m es → AllFrom delay m (change_first test change es)
from-first delay m test change [] keeps all = tt
from-first delay m test change (e ∷ es) keeps all =
    by_test (λ (xs : List Entry). AllFrom delay m xs) (test e) (change e ∷ es) (e ∷ change_first test change es)
    (λ _. (omega (arith, keeps delay e, all.0), all.1)) (λ _. (all.0, from-first delay m test change es keeps all.1))

from-entry : (delay m : ℕ) (e : Entry) (es : List Entry) → m ≤ (reaches_taps delay e).begin → AllFrom delay m es → AllFrom delay m (with_entry e es)
from-entry delay m e [] later all = (later, tt)
from-entry delay m e (x ∷ es) later all =
    by_test (λ (xs : List Entry). AllFrom delay m xs) (goes_before e x) (e ∷ x ∷ es) (x ∷ with_entry e es)
    (λ _. (later, all)) (λ _. (all.0, from-entry delay m e es later all.1))

from-said : (delay m tap : ℕ) (said : Option (List ℕ)) (now : ℕ) (ts : List Tap) (es : List Entry) → m ≤ now → AllFrom delay m es → AllFrom delay m (with_said tap said now ts es)
from-said delay m tap None now ts es later all = all
from-said delay m tap (Some octets) now ts es later all = from-entry delay m (Sent (sending tap octets now ts)) es (omega (arith, later)) all

from-noise : (delay m now end : ℕ) (noisy : Bool) (es : List Entry) → m ≤ now → AllFrom delay m es → AllFrom delay m (with_noise now end noisy es)
from-noise delay m now end true es later all = from-first delay m (is_noise_at now) (noisy_until end) es (keeps-noisy end) all
from-noise delay m now end false es later all = from-entry delay m (trace.Noise (record { begin = now; end = end })) es later all

-- ---- each event

stays-turn : (old : List Entry) (w : World) (tap : ℕ) (o : Option Tap) → IsPast old w → IsPast old (world_after w (step_turn w tap o))
stays-turn old w tap None past = past
stays-turn old w tap (Some t) past =
    let turn = turn_of w.params t.station t.marks w.now in
    world_after-unless (IsPast old) w
    (record w { trace = with_said tap turn.1 w.now w.taps w.trace; taps = slice_set w.taps tap (record t { station = turn.0; marks = [] }) })
    (record { now = w.now; spoke = turn.1 })
    ((not t.running, NotRunning) ∷ (is_some turn.1 && nat_le w.limit (length w.trace), TraceFull) ∷ [])
    past
    (λ _. (past.0, past.1, past.2, from-said w.params.ttd past.0 tap turn.1 w.now w.taps w.trace past.1 past.3))

stays-pass : (old : List Entry) (w : World) (d : ℕ) → IsPast old w → IsPast old (world_after w (step_pass w d))
stays-pass old w d past =
    let now = w.now + d in
    let taps = told w.params.ttd w.trace w.now now 0 w.taps in
    let change = entry_at w.params.ttd w.taps w.trace w.now now in
    world_after-unless (IsPast old) w (record w { now = now; taps = taps; trace = map change w.trace }) (record { now = now; spoke = None }) (pass_faults w d taps)
    past
    (λ _. (past.0, omega (arith, past.1), past.2, from-map w.params.ttd past.0 change w.trace (keeps-at w.params.ttd w.taps w.trace w.now now) past.3))

stays-damage : (old : List Entry) (w : World) (tap speaker : ℕ) (place : Option ℕ) (at from : Option Tap) → IsPast old w → IsPast old (world_after w (step_damage w tap speaker place at from))
stays-damage old w tap speaker place at from past =
    let test = is_in_air_by w.params.ttd w.now speaker in
    let hit : Hit = record { tap = tap; place = place } in
    world_after-unless (IsPast old) w (record w { trace = change_first test (with_hit hit) w.trace }) (record { now = w.now; spoke = None })
    ((is_none at || is_none from, NoSuchTap) ∷ (tap == speaker || not (has_place (find test w.trace) place), NothingInAir) ∷ [])
    past
    (λ _. (past.0, past.1, past.2, from-first w.params.ttd past.0 test (with_hit hit) w.trace (keeps-hit hit) past.3))

stays-start : (old : List Entry) (w : World) (tap : ℕ) (o : Option Tap) → IsPast old w → IsPast old (world_after w (step_start w tap o))
stays-start old w tap None past = past
stays-start old w tap (Some t) past =
    world_after-unless (IsPast old) w (record w { taps = slice_set w.taps tap (started_tap w tap t) }) (record { now = w.now; spoke = None })
    ((t.running || list_any (is_in_air_by w.params.ttd w.now tap) w.trace, Running) ∷ [])
    past (λ _. (past.0, past.1, past.2, past.3))

stays-stop : (old : List Entry) (w : World) (tap : ℕ) (o : Option Tap) → IsPast old w → IsPast old (world_after w (step_stop w tap o))
stays-stop old w tap None past = past
stays-stop old w tap (Some t) past =
    world_after-unless (IsPast old) w (record w { trace = map (cut_at w.now tap) w.trace; taps = slice_set w.taps tap (halted t) }) (record { now = w.now; spoke = None })
    ((not t.running, NotRunning) ∷ [])
    past (λ _. (past.0, past.1, past.2, from-map w.params.ttd past.0 (cut_at w.now tap) w.trace (keeps-cut w.now tap) past.3))

stays-queue : (old : List Entry) (w : World) (tap : ℕ) (r : RequestFields) (o : Option Tap) → IsPast old w → IsPast old (world_after w (step_queue w tap r o))
stays-queue old w tap r None past = past
stays-queue old w tap r (Some t) past =
    world_after-unless (IsPast old) w (record w { taps = slice_set w.taps tap (record t { station = pushed t.station r }) }) (record { now = w.now; spoke = None })
    ((not (t.running && t.spec.master), NotRunning) ∷ (nat_le queue_limit (length (list_for t.station.cycles.queue r)), QueueFull) ∷ [])
    past (λ _. (past.0, past.1, past.2, past.3))

stays-noise : (old : List Entry) (w : World) (bits : ℕ) (noisy : Bool) → IsPast old w → IsPast old (world_after w (step_noise w bits noisy))
stays-noise old w bits noisy past =
    world_after-unless (IsPast old) w (record w { trace = with_noise w.now (w.now + bits) noisy w.trace }) (record { now = w.now; spoke = None })
    ((bits == 0, ZeroTime) ∷ (not noisy && nat_le w.limit (length w.trace), TraceFull) ∷ [])
    past (λ _. (past.0, past.1, past.2, from-noise w.params.ttd past.0 w.now (w.now + bits) noisy w.trace past.1 past.3))

stays-unheard : (old : List Entry) (w : World) (tap speaker : ℕ) (at from : Option Tap) → IsPast old w → IsPast old (world_after w (step_unheard w tap speaker at from))
stays-unheard old w tap speaker at from past =
    let test = begins_from w.now speaker in
    world_after-unless (IsPast old) w (record w { trace = change_first test (unheard_at tap) w.trace }) (record { now = w.now; spoke = None })
    ((is_none at || is_none from, NoSuchTap) ∷ (tap == speaker || not (list_any test w.trace), NothingInAir) ∷ [])
    past
    (λ _. (past.0, past.1, past.2, from-first w.params.ttd past.0 test (unheard_at tap) w.trace (keeps-unheard tap) past.3))

stays-after : (old : List Entry) (w : World) (e : Event) → IsPast old w → IsPast old (world_after w (step w e))
stays-after old w (Turn tap) past = stays-turn old w tap (slice_get w.taps tap) past
stays-after old w (Pass d) past = stays-pass old w d past
stays-after old w (Damage tap speaker place) past = stays-damage old w tap speaker place (slice_get w.taps tap) (slice_get w.taps speaker) past
stays-after old w (Start tap) past = stays-start old w tap (slice_get w.taps tap) past
stays-after old w (Stop tap) past = stays-stop old w tap (slice_get w.taps tap) past
stays-after old w (Queue tap r) past = stays-queue old w tap r (slice_get w.taps tap) past
stays-after old w (Noise bits) past = stays-noise old w bits (is_noisy w) past
stays-after old w (Unheard tap speaker) past = stays-unheard old w tap speaker (slice_get w.taps tap) (slice_get w.taps speaker) past

pub past-stays : (old : List Entry) (w next : World) (e : Event) (reply : Reply) → IsPast old w → step w e ≡ Ok (next, reply) → IsPast old next
past-stays old w next e reply past ok = subst (λ o. IsPast old (world_after w o)) ok (stays-after old w e past)
