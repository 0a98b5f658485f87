-- The trace of a world stands in order: by begin, and each entry lasts for some time.
use Rattle.std.proofs.Common.{◌≡◌, ℕ, ◌+◌, ◌≤◌, List, [], ◌∷◌, length, map, Bool, true, false, not, ◌||◌, ◌&&◌, ◌==◌, nat_lt, nat_le, refl, ap, subst, sym, arith, Option, Some, None}
use Rattle.std.specs.Prelude.{slice_get, slice_set, is_some, is_none, find}
use Rattle.std.specs.List.{list_any}
use Rattle.std.proofs.lemmas.Bool.{and_parts, ltb-true, ltb-false, eqb-true}
use Rattle.pb_timers.specs.Timers.{Params}
use Rattle.pb_cycles.specs.RequestFields.{RequestFields}
use Rattle.law_turn.specs.Stations.{list_for, pushed}
use Rattle.law_turn.specs.Turns.{turn_of}
use Rattle.law_model.specs.Trace.{Hit, Record, Entry, Sent, Noise, entry_begin, rank, goes_before, with_entry, cut_end, cut_at, is_noise_at, noisy_until, begins_from, unheard_at}
use Rattle.law_model.specs.Medium.{TapSpec, Tap, reaches, ends_between, entry_at, heard_by}
use Rattle.law_model.specs.World as world
use Rattle.law_model.specs.World.{World, Event, Turn, Pass, Damage, Start, Stop, Queue, Reply, Fault, NoSuchTap, Running, NotRunning, NothingInAir, ZeroTime, QueueFull, TraceFull, is_in_air_by, IsNewWorld, stopped_tap, new_faults, queue_limit}
use Rattle.law_model.specs.Step.{sending, with_said, step_turn, told, pass_faults, step_pass, with_hit, change_first, has_place, step_damage, started_tap, step_start, halted, step_stop, step_queue, with_noise, is_noisy, step_noise, step_unheard, step, world_after, RunsTo}
use Rattle.law_model.specs.Laws.{AllBegun, AllFit, AreEvents, IsSound}
use Rattle.law_model.proofs.Cases.{by_test}
use Rattle.law_model.proofs.Worlds.{world_after-unless, sound-step, sound-new_world, unless-Ok}
use Rattle.law_runs.specs.Judging.{IsOrderedFrom, IsOrdered, StandsFrom, Stands}

-- ---- a new entry

goes-early : (e x : Entry) → goes_before e x ≡ true → entry_begin e ≤ entry_begin x
goes-early e x goes = by (nat_lt (entry_begin e) (entry_begin x)) refl goes
  where
    by : (b : Bool) → nat_lt (entry_begin e) (entry_begin x) ≡ b → (b || (entry_begin e == entry_begin x && nat_lt (rank e) (rank x))) ≡ true → entry_begin e ≤ entry_begin x
    by true less goes = omega (arith, ltb-true (entry_begin e) (entry_begin x) less)
    by false least goes = omega (arith, eqb-true (entry_begin e) (entry_begin x) (and_parts (entry_begin e == entry_begin x) (nat_lt (rank e) (rank x)) goes).0)

stays-late : (e x : Entry) → goes_before e x ≡ false → entry_begin x ≤ entry_begin e
stays-late e x stays = by (nat_lt (entry_begin e) (entry_begin x)) refl stays
  where
    by : (b : Bool) → nat_lt (entry_begin e) (entry_begin x) ≡ b → (b || (entry_begin e == entry_begin x && nat_lt (rank e) (rank x))) ≡ false → entry_begin x ≤ entry_begin e
    by true less stays = let wrong : true ≡ false = stays in absurd cc
    by false least stays = ltb-false (entry_begin e) (entry_begin x) least

stands-with_entry : (from : ℕ) (e : Entry) (trace : List Entry) → from ≤ entry_begin e → StandsFrom from trace → StandsFrom from (with_entry e trace)
stands-with_entry from e [] late stands = (late, tt)
stands-with_entry from e (x ∷ xs) late (here, rest) =
    by_test (λ (es : List Entry). StandsFrom from es) (goes_before e x) (e ∷ x ∷ xs) (x ∷ with_entry e xs)
    (λ goes. (late, (goes-early e x goes, rest))) (λ stays. (here, stands-with_entry (entry_begin x) e xs (stays-late e x stays) rest))

stands-with_said : (w : World) (tap : ℕ) (o : Option (List ℕ)) → StandsFrom 0 w.trace → StandsFrom 0 (with_said tap o w.now w.taps w.trace)
stands-with_said w tap None stands = stands
stands-with_said w tap (Some octets) stands = stands-with_entry 0 (Sent (sending tap octets w.now w.taps)) w.trace (omega arith) stands

-- ---- a change that leaves each entry its begin

abbrev KeepsBegin : (Entry → Entry) → Type 0
KeepsBegin change = (e : Entry) → entry_begin (change e) ≡ entry_begin e

stands-map : (change : Entry → Entry) → KeepsBegin change → (from : ℕ) (es : List Entry) → StandsFrom from es → StandsFrom from (map change es)
stands-map change same from [] stands = tt
stands-map change same from (e ∷ es) (here, rest) =
    (omega (arith, here, same e), subst (λ m. StandsFrom m (map change es)) (sym (same e)) (stands-map change same (entry_begin e) es rest))

stands-change_first : (test : Entry → Bool) (change : Entry → Entry) → KeepsBegin change → (from : ℕ) (es : List Entry) → StandsFrom from es → StandsFrom from (change_first test change es)
stands-change_first test change same from [] stands = tt
stands-change_first test change same from (e ∷ es) (here, rest) =
    by_test (λ (xs : List Entry). StandsFrom from xs) (test e) (change e ∷ es) (e ∷ change_first test change es)
    (λ _. (omega (arith, here, same e), subst (λ m. StandsFrom m es) (sym (same e)) rest)) (λ _. (here, stands-change_first test change same (entry_begin e) es rest))

same-with_hit : (hit : Hit) → KeepsBegin (with_hit hit)
same-with_hit hit (Noise span) = refl
same-with_hit hit (Sent r) = refl

same-noisy_until : (m : ℕ) → KeepsBegin (noisy_until m)
same-noisy_until m (Noise span) = refl
same-noisy_until m (Sent r) = refl

same-unheard_at : (tap : ℕ) → KeepsBegin (unheard_at tap)
same-unheard_at tap (Noise span) = refl
same-unheard_at tap (Sent r) = refl

same-cut_at : (now tap : ℕ) → KeepsBegin (cut_at now tap)
same-cut_at now tap (Noise span) = refl
same-cut_at now tap (Sent r) = by_test (λ (x : Record). x.begin ≡ r.begin) (r.tap == tap) (record r { end = cut_end now r }) r (λ _. refl) (λ _. refl)

same-entry_at : (delay : ℕ) (taps : List Tap) (trace : List Entry) (now later : ℕ) → KeepsBegin (entry_at delay taps trace now later)
same-entry_at delay taps trace now later (Noise span) = refl
same-entry_at delay taps trace now later (Sent r) =
    by_test (λ (e : Entry). entry_begin e ≡ r.begin) (ends_between now later (reaches delay r)) (Sent (record r { heard = heard_by delay trace r 0 taps r.heard })) (Sent r)
    (λ _. refl) (λ _. refl)

-- ---- every event

stands-turn : (w : World) (tap : ℕ) (o : Option Tap) → Stands w → Stands (world_after w (step_turn w tap o))
stands-turn w tap None stands = stands
stands-turn w tap (Some t) stands =
    let turn = turn_of w.params t.station t.marks w.now in
    world_after-unless Stands w
    (record w { trace = with_said tap turn.1 w.now w.taps w.trace; taps = slice_set w.taps tap (record t { station = turn.0; marks = [] }) })
    (record { now = w.now; spoke = turn.1 })
    ((not t.running, NotRunning) ∷ (is_some turn.1 && nat_le w.limit (length w.trace), TraceFull) ∷ [])
    stands (λ _. stands-with_said w tap turn.1 stands)

stands-pass : (w : World) (d : ℕ) → Stands w → Stands (world_after w (step_pass w d))
stands-pass w d stands =
    let now = w.now + d in
    let taps = told w.params.ttd w.trace w.now now 0 w.taps in
    world_after-unless Stands w (record w { now = now; taps = taps; trace = map (entry_at w.params.ttd w.taps w.trace w.now now) w.trace })
    (record { now = now; spoke = None }) (pass_faults w d taps) stands
    (λ _. stands-map (entry_at w.params.ttd w.taps w.trace w.now now) (same-entry_at w.params.ttd w.taps w.trace w.now now) 0 w.trace stands)

stands-damage : (w : World) (tap speaker : ℕ) (place : Option ℕ) (at from : Option Tap) → Stands w → Stands (world_after w (step_damage w tap speaker place at from))
stands-damage w tap speaker place at from stands =
    let in_air = is_in_air_by w.params.ttd w.now speaker in
    let hit : Hit = record { tap = tap; place = place } in
    world_after-unless Stands w (record w { trace = change_first in_air (with_hit hit) w.trace }) (record { now = w.now; spoke = None })
    ((is_none at || is_none from, NoSuchTap) ∷ (tap == speaker || not (has_place (find in_air w.trace) place), NothingInAir) ∷ [])
    stands (λ _. stands-change_first in_air (with_hit hit) (same-with_hit hit) 0 w.trace stands)

stands-start : (w : World) (tap : ℕ) (o : Option Tap) → Stands w → Stands (world_after w (step_start w tap o))
stands-start w tap None stands = stands
stands-start w tap (Some t) stands =
    world_after-unless Stands w (record w { taps = slice_set w.taps tap (started_tap w tap t) }) (record { now = w.now; spoke = None })
    ((t.running || list_any (is_in_air_by w.params.ttd w.now tap) w.trace, Running) ∷ []) stands (λ _. stands)

stands-stop : (w : World) (tap : ℕ) (o : Option Tap) → Stands w → Stands (world_after w (step_stop w tap o))
stands-stop w tap None stands = stands
stands-stop w tap (Some t) stands =
    world_after-unless Stands w (record w { trace = map (cut_at w.now tap) w.trace; taps = slice_set w.taps tap (halted t) }) (record { now = w.now; spoke = None })
    ((not t.running, NotRunning) ∷ []) stands (λ _. stands-map (cut_at w.now tap) (same-cut_at w.now tap) 0 w.trace stands)

stands-queue : (w : World) (tap : ℕ) (r : RequestFields) (o : Option Tap) → Stands w → Stands (world_after w (step_queue w tap r o))
stands-queue w tap r None stands = stands
stands-queue w tap r (Some t) stands =
    world_after-unless Stands w (record w { taps = slice_set w.taps tap (record t { station = pushed t.station r }) }) (record { now = w.now; spoke = None })
    ((not (t.running && t.spec.master), NotRunning) ∷ (nat_le queue_limit (length (list_for t.station.cycles.queue r)), QueueFull) ∷ []) stands (λ _. stands)

stands-with_noise : (now end : ℕ) (noisy : Bool) (trace : List Entry) → StandsFrom 0 trace → StandsFrom 0 (with_noise now end noisy trace)
stands-with_noise now end true trace stands = stands-change_first (is_noise_at now) (noisy_until end) (same-noisy_until end) 0 trace stands
stands-with_noise now end false trace stands = stands-with_entry 0 (Noise (record { begin = now; end = end })) trace (omega arith) stands

stands-noise : (w : World) (bits : ℕ) (noisy : Bool) → Stands w → Stands (world_after w (step_noise w bits noisy))
stands-noise w bits noisy stands =
    world_after-unless Stands w (record w { trace = with_noise w.now (w.now + bits) noisy w.trace }) (record { now = w.now; spoke = None })
    ((bits == 0, ZeroTime) ∷ (not noisy && nat_le w.limit (length w.trace), TraceFull) ∷ [])
    stands (λ _. stands-with_noise w.now (w.now + bits) noisy w.trace stands)

stands-unheard : (w : World) (tap speaker : ℕ) (at from : Option Tap) → Stands w → Stands (world_after w (step_unheard w tap speaker at from))
stands-unheard w tap speaker at from stands =
    let begins = begins_from w.now speaker in
    world_after-unless Stands w (record w { trace = change_first begins (unheard_at tap) w.trace }) (record { now = w.now; spoke = None })
    ((is_none at || is_none from, NoSuchTap) ∷ (tap == speaker || not (list_any begins w.trace), NothingInAir) ∷ [])
    stands (λ _. stands-change_first begins (unheard_at tap) (same-unheard_at tap) 0 w.trace stands)

pub stands-step : (w : World) (e : Event) → Stands w → Stands (world_after w (step w e))
stands-step w (Turn tap) stands = stands-turn w tap (slice_get w.taps tap) stands
stands-step w (Pass d) stands = stands-pass w d stands
stands-step w (Damage tap speaker place) stands = stands-damage w tap speaker place (slice_get w.taps tap) (slice_get w.taps speaker) stands
stands-step w (Start tap) stands = stands-start w tap (slice_get w.taps tap) stands
stands-step w (Stop tap) stands = stands-stop w tap (slice_get w.taps tap) stands
stands-step w (Queue tap r) stands = stands-queue w tap r (slice_get w.taps tap) stands
stands-step w (world.Noise bits) stands = stands-noise w bits (is_noisy w) stands
stands-step w (world.Unheard tap speaker) stands = stands-unheard w tap speaker (slice_get w.taps tap) (slice_get w.taps speaker) stands

-- ---- lists of events

pub stands-after : (events : List Event) (w next : World) → RunsTo w events next → Stands w → Stands next
stands-after [] w next leads stands = subst Stands leads stands
stands-after (e ∷ es) w next (between, reply, done, leads) stands =
    stands-after es between next leads (subst Stands (ap (world_after w) done) (stands-step w e stands))

pub sound-after : (events : List Event) (w next : World) → AreEvents events → RunsTo w events next → IsSound w → IsSound next
sound-after [] w next are leads sound = subst IsSound leads sound
sound-after (e ∷ es) w next are (between, reply, done, leads) sound =
    sound-after es between next are.1 leads (subst IsSound (ap (world_after w) done) (sound-step w e are.0 sound))

pub stands-new : (p : Params) (specs : List TapSpec) (new : World) → IsNewWorld p specs new → Stands new
stands-new p specs new made =
    let first : World = record { params = p; now = 0; trace = []; taps = map (stopped_tap p) specs; limit = made.0 } in
    subst Stands (unless-Ok (new_faults p specs) first new made.1).1 tt

ordered-by : (from now : ℕ) (es : List Entry) → StandsFrom from es → AllBegun now es → IsOrderedFrom from es
ordered-by from now [] stands begun = tt
ordered-by from now (e ∷ es) (here, rest) (by, lasts, begun) = (here, lasts, ordered-by (entry_begin e) now es rest begun)

-- the trace of a sound world is in order where it stands by begin
pub is-ordered : (w : World) → IsSound w → Stands w → IsOrdered w.trace
is-ordered w sound stands = ordered-by 0 w.now w.trace stands sound.begun

-- accepted events lead from a new world to one whose trace stands by begin
pub leads-in-order : (p : Params) (specs : List TapSpec) (events : List Event) (new w : World) → IsNewWorld p specs new → RunsTo new events w → Stands w
leads-in-order p specs events new w made leads = stands-after events new w leads (stands-new p specs new made)

-- where their requests are proper, its trace is in order
pub is-ordered-after : (p : Params) (specs : List TapSpec) (events : List Event) (new w : World) → AllFit specs → AreEvents events
    → IsNewWorld p specs new → RunsTo new events w → IsOrdered w.trace
is-ordered-after p specs events new w fit are made leads =
    is-ordered w (sound-after events new w are leads (sound-new_world p specs new fit made)) (leads-in-order p specs events new w made leads)
