-- What an event leaves as it was, and who can't have waited out yet.
use Rattle.std.proofs.Common.{◌≡◌, ◌∙◌, ap, sym, subst, refl, arith, ℕ, zero, suc, ◌+◌, ◌-◌, ◌<◌, ◌≤◌, List, [], ◌∷◌, length, map, Bool, true, false, not, ◌&&◌, ◌||◌, if◌then◌else◌, Option, Some, None, Result, Ok}
use Rattle.std.specs.Prelude.{slice_get, slice_set, is_some, is_none, nat_le, ◌==◌, find}
use Rattle.std.specs.List.{list_any}
use Rattle.std.proofs.lemmas.Bool.{lt-leb}
use Rattle.std.proofs.Math.Bool.{and-false}
use Rattle.pb_timers.specs.Timers.{Params, tto}
use Rattle.pb_timers.specs.ParamRules.{IsValid}
use Rattle.pb_cycles.specs.RequestFields.{RequestFields}
use Rattle.law_turn.specs.Stations.{list_for, pushed}
use Rattle.law_turn.specs.Turns.{turn_of}
use Rattle.law_model.specs.Trace.{Hit, Entry, begins_from, unheard_at}
use Rattle.law_model.specs.Medium.{Tap, TapSpec, entry_at}
use Rattle.law_model.specs.World as world
use Rattle.law_model.specs.World.{World, Event, Turn, Pass, Damage, Start, Stop, Queue, Unheard, Reply, Fault, NoSuchTap, NotRunning, NothingInAir, ZeroTime, QueueFull, TraceFull, trace_limit, queue_limit, is_in_air_by, new_faults, new_world, new_world_within, stopped_tap}
use Rattle.law_model.specs.Step.{step, step_turn, step_pass, step_damage, step_queue, step_noise, step_unheard, told, pass_faults, with_said, with_hit, change_first, has_place, with_noise, is_noisy, world_after}
use Rattle.law_model.proofs.Worlds.{world_after-unless, unless-Ok}
use Rattle.law_runs.specs.Headline.{specs_of}
use Rattle.law_runs.specs.Premises.{runs_at, has_namesakes, has_waited, waited_by}
use Rattle.law_runs.specs.Quiet.{quiet_in}
use Rattle.pb_taps.specs.Events.{event_of}
use Rattle.pb_taps.specs.declared.events.Event as taps
use Rattle.pb_taps.specs.declared.events.Event.TheVariants as event
use Rattle.pb_world.specs.Premises.{IsOldest, IsQuiet}
use Rattle.pb_world.proofs.Premising.{waited-is}

-- ---- namesakes

-- taps that run as others do, at their addresses
abbrev RunAsAlike : List Tap → List Tap → Type 0
RunAsAlike [] [] = Unit {0}
RunAsAlike [] (u ∷ us) = ⊥
RunAsAlike (t ∷ ts) [] = ⊥
RunAsAlike (t ∷ ts) (u ∷ us) = (t.running ≡ u.running) × (t.spec.address ≡ u.spec.address) × RunAsAlike ts us

alike-same : (ts : List Tap) → RunAsAlike ts ts
alike-same [] = tt
alike-same (t ∷ ts) = (refl, refl, alike-same ts)

alike-set : (ts : List Tap) (i : ℕ) (t u : Tap) → slice_get ts i ≡ Some t → t.running ≡ u.running → t.spec.address ≡ u.spec.address → RunAsAlike ts (slice_set ts i u)
alike-set [] i t u found runs at = tt
alike-set (x ∷ ts) zero t u found runs at =
    let same : x ≡ t = cc in
    (ap (λ (y : Tap). y.running) same ∙ runs, ap (λ (y : Tap). y.spec.address) same ∙ at, alike-same ts)
alike-set (x ∷ ts) (suc i) t u found runs at = (refl, refl, alike-set ts i t u found runs at)

alike-told : (delay : ℕ) (trace : List Entry) (from to tap : ℕ) (ts : List Tap) → RunAsAlike ts (told delay trace from to tap ts)
alike-told delay trace from to tap [] = tt
alike-told delay trace from to tap (t ∷ ts) = (refl, refl, alike-told delay trace from to (tap + 1) ts)

any-alike : (address : ℕ) (ts us : List Tap) → RunAsAlike ts us → list_any (runs_at address) us ≡ list_any (runs_at address) ts
any-alike address [] [] alike = refl
any-alike address [] (u ∷ us) alike = absurd alike
any-alike address (t ∷ ts) [] alike = absurd alike
any-alike address (t ∷ ts) (u ∷ us) (runs, at, alike) =
    ap (λ (b : Bool). (b && u.spec.address == address) || list_any (runs_at address) us) (sym runs)
    ∙ ap (λ (n : ℕ). (t.running && n == address) || list_any (runs_at address) us) (sym at)
    ∙ ap (λ (b : Bool). (t.running && t.spec.address == address) || b) (any-alike address ts us alike)

namesakes-alike : (ts us : List Tap) → RunAsAlike ts us → has_namesakes us ≡ has_namesakes ts
namesakes-alike [] [] alike = refl
namesakes-alike [] (u ∷ us) alike = absurd alike
namesakes-alike (t ∷ ts) [] alike = absurd alike
namesakes-alike (t ∷ ts) (u ∷ us) (runs, at, alike) =
    ap (λ (b : Bool). (b && list_any (runs_at u.spec.address) us) || has_namesakes us) (sym runs)
    ∙ ap (λ (n : ℕ). (t.running && list_any (runs_at n) us) || has_namesakes us) (sym at)
    ∙ ap (λ (b : Bool). (t.running && b) || has_namesakes us) (any-alike t.spec.address ts us alike)
    ∙ ap (λ (b : Bool). (t.running && list_any (runs_at t.spec.address) ts) || b) (namesakes-alike ts us alike)

-- a world whose taps run as those of another
abbrev RunsAlike : World → World → Type 0
RunsAlike w next = RunAsAlike w.taps next.taps

after-turn : (w : World) (tap : ℕ) (o : Option Tap) → slice_get w.taps tap ≡ o → RunsAlike w (world_after w (step_turn w tap o))
after-turn w tap None found = alike-same w.taps
after-turn w tap (Some t) found =
    let turn = turn_of w.params t.station t.marks w.now in
    let turned : Tap = record t { station = turn.0; marks = [] } in
    world_after-unless (RunsAlike w) w (record w { trace = with_said tap turn.1 w.now w.taps w.trace; taps = slice_set w.taps tap turned }) (record { now = w.now; spoke = turn.1 })
    ((not t.running, NotRunning) ∷ (is_some turn.1 && nat_le w.limit (length w.trace), TraceFull) ∷ [])
    (alike-same w.taps) (λ _. alike-set w.taps tap t turned found refl refl)

after-pass : (w : World) (d : ℕ) → RunsAlike w (world_after w (step_pass w d))
after-pass w d =
    let now = w.now + d in
    let taps = told w.params.ttd w.trace w.now now 0 w.taps in
    world_after-unless (RunsAlike w) w (record w { now = now; taps = taps; trace = map (entry_at w.params.ttd w.taps w.trace w.now now) w.trace })
    (record { now = now; spoke = None }) (pass_faults w d taps) (alike-same w.taps) (λ _. alike-told w.params.ttd w.trace w.now now 0 w.taps)

after-damage : (w : World) (tap speaker : ℕ) (place : Option ℕ) (at from : Option Tap) → RunsAlike w (world_after w (step_damage w tap speaker place at from))
after-damage w tap speaker place at from =
    let in_air = is_in_air_by w.params.ttd w.now speaker in
    let hit : Hit = record { tap = tap; place = place } in
    world_after-unless (RunsAlike w) w (record w { trace = change_first in_air (with_hit hit) w.trace }) (record { now = w.now; spoke = None })
    ((is_none at || is_none from, NoSuchTap) ∷ (tap == speaker || not (has_place (find in_air w.trace) place), NothingInAir) ∷ [])
    (alike-same w.taps) (λ _. alike-same w.taps)

after-queue : (w : World) (tap : ℕ) (r : RequestFields) (o : Option Tap) → slice_get w.taps tap ≡ o → RunsAlike w (world_after w (step_queue w tap r o))
after-queue w tap r None found = alike-same w.taps
after-queue w tap r (Some t) found =
    let queued : Tap = record t { station = pushed t.station r } in
    world_after-unless (RunsAlike w) w (record w { taps = slice_set w.taps tap queued }) (record { now = w.now; spoke = None })
    ((not (t.running && t.spec.master), NotRunning) ∷ (nat_le queue_limit (length (list_for t.station.cycles.queue r)), QueueFull) ∷ [])
    (alike-same w.taps) (λ _. alike-set w.taps tap t queued found refl refl)

after-noise : (w : World) (bits : ℕ) (noisy : Bool) → RunsAlike w (world_after w (step_noise w bits noisy))
after-noise w bits noisy =
    world_after-unless (RunsAlike w) w (record w { trace = with_noise w.now (w.now + bits) noisy w.trace }) (record { now = w.now; spoke = None })
    ((bits == 0, ZeroTime) ∷ (not noisy && nat_le w.limit (length w.trace), TraceFull) ∷ []) (alike-same w.taps) (λ _. alike-same w.taps)

after-unheard : (w : World) (tap speaker : ℕ) (at from : Option Tap) → RunsAlike w (world_after w (step_unheard w tap speaker at from))
after-unheard w tap speaker at from =
    let begins = begins_from w.now speaker in
    world_after-unless (RunsAlike w) w (record w { trace = change_first begins (unheard_at tap) w.trace }) (record { now = w.now; spoke = None })
    ((is_none at || is_none from, NoSuchTap) ∷ (tap == speaker || not (list_any begins w.trace), NothingInAir) ∷ [])
    (alike-same w.taps) (λ _. alike-same w.taps)

-- neither a start nor a stop
abbrev pub is_steady : Event → Bool
is_steady (Turn tap) = true
is_steady (Pass bits) = true
is_steady (Damage tap speaker place) = true
is_steady (Start tap) = false
is_steady (Stop tap) = false
is_steady (Queue tap request) = true
is_steady (world.Noise bits) = true
is_steady (Unheard tap speaker) = true

after-steady : (w : World) (e : Event) → is_steady e ≡ true → RunsAlike w (world_after w (step w e))
after-steady w (Turn tap) steady = after-turn w tap (slice_get w.taps tap) refl
after-steady w (Pass d) steady = after-pass w d
after-steady w (Damage tap speaker place) steady = after-damage w tap speaker place (slice_get w.taps tap) (slice_get w.taps speaker)
after-steady w (Start tap) steady = absurd cc
after-steady w (Stop tap) steady = absurd cc
after-steady w (Queue tap r) steady = after-queue w tap r (slice_get w.taps tap) refl
after-steady w (world.Noise bits) steady = after-noise w bits (is_noisy w)
after-steady w (Unheard tap speaker) steady = after-unheard w tap speaker (slice_get w.taps tap) (slice_get w.taps speaker)

-- such an event leaves whether there are namesakes
pub namesakes-steady : (w next : World) (e : Event) (reply : Reply) → is_steady e ≡ true → step w e ≡ Ok (next, reply) → has_namesakes next.taps ≡ has_namesakes w.taps
namesakes-steady w next e reply steady ok =
    namesakes-alike w.taps next.taps (subst (λ (r : Result (World × Reply) Fault). RunsAlike w (world_after w r)) ok (after-steady w e steady))

-- ---- the shortest time-out

shortest : (p : Params) (address : ℕ) → tto p 0 ≤ tto p address
shortest p address = omega arith

-- no tap can have waited out, where none has been in silence for the shortest time-out
pub none-waits : (w : World) (quiet : List ℕ) (oldest : ℕ) → IsValid w.params → IsQuiet w quiet → IsOldest oldest (length w.taps) quiet → w.now - oldest < tto w.params 0 → waited_by w 0 w.taps ≡ []
none-waits w quiet oldest valid silent old short = from 0 w.taps (omega arith)
  where
    not-yet : (tap : ℕ) (t : Tap) → tap < length w.taps → has_waited w tap t ≡ false
    not-yet tap t there =
        let timeout = tto w.params t.spec.address in
        let q = quiet_in w tap in
        sym (waited-is w tap t q timeout valid refl refl)
        ∙ ap (λ (b : Bool). t.running && t.spec.master && nat_le timeout (w.now - t.since) && b)
        (lt-leb timeout (w.now - q) (omega (arith, short, old tap there, silent tap there, shortest w.params t.spec.address)))
        ∙ and-false (t.running && t.spec.master && nat_le timeout (w.now - t.since))

    from : (tap : ℕ) (ts : List Tap) → tap + length ts ≡ length w.taps → waited_by w tap ts ≡ []
    from tap [] all_of = refl
    from tap (t ∷ ts) all_of =
        ap (λ (b : Bool). if b then record { tap = tap; moment = w.now } ∷ waited_by w (tap + 1) ts else waited_by w (tap + 1) ts) (not-yet tap t (omega (arith, all_of)))
        ∙ from (tap + 1) ts (omega (arith, all_of))

-- ---- a new world

no-namesakes : (p : Params) (specs : List TapSpec) → has_namesakes (map (stopped_tap p) specs) ≡ false
no-namesakes p [] = refl
no-namesakes p (spec ∷ specs) = no-namesakes p specs

abbrev made-within : ℕ → Params → List TapSpec → World
made-within limit p specs = record { params = p; now = 0; trace = []; taps = map (stopped_tap p) specs; limit = limit }

-- no tap of it runs
pub namesakes-within : (limit : ℕ) (p : Params) (specs : List TapSpec) (w : World) → new_world_within limit p specs ≡ Ok w → has_namesakes w.taps ≡ false
namesakes-within limit p specs w ok =
    subst (λ (x : World). has_namesakes x.taps ≡ false) (unless-Ok (new_faults p specs) (made-within limit p specs) w ok).1 (no-namesakes p specs)

pub namesakes-new : (p : Params) (specs : List TapSpec) (w : World) → new_world p specs ≡ Ok w → has_namesakes w.taps ≡ false
namesakes-new p specs w ok = namesakes-within trace_limit p specs w ok

-- its trace may have so many entries
pub limit-within : (limit : ℕ) (p : Params) (specs : List TapSpec) (w : World) → new_world_within limit p specs ≡ Ok w → w.limit ≡ limit
limit-within limit p specs w ok = ap (λ (x : World). x.limit) (sym (unless-Ok (new_faults p specs) (made-within limit p specs) w ok).1)

-- it has the parameters and the taps that it was made with
pub params-within : (limit : ℕ) (p : Params) (specs : List TapSpec) (w : World) → new_world_within limit p specs ≡ Ok w → w.params ≡ p
params-within limit p specs w ok = ap (λ (x : World). x.params) (sym (unless-Ok (new_faults p specs) (made-within limit p specs) w ok).1)

stopped-specs : (p : Params) (specs : List TapSpec) → map (λ t. t.spec) (map (stopped_tap p) specs) ≡ specs
stopped-specs p [] = refl
stopped-specs p (spec ∷ specs) = ap (λ (rest : List TapSpec). spec ∷ rest) (stopped-specs p specs)

pub specs-within : (limit : ℕ) (p : Params) (specs : List TapSpec) (w : World) → new_world_within limit p specs ≡ Ok w → specs_of w ≡ specs
specs-within limit p specs w ok = ap specs_of (sym (unless-Ok (new_faults p specs) (made-within limit p specs) w ok).1) ∙ stopped-specs p specs

-- nothing was sent in it
pub empty-within : (limit : ℕ) (p : Params) (specs : List TapSpec) (w : World) → new_world_within limit p specs ≡ Ok w → w.trace ≡ []
empty-within limit p specs w ok = ap (λ (x : World). x.trace) (sym (unless-Ok (new_faults p specs) (made-within limit p specs) w ok).1)

-- an event of code that is neither
pub steady : (e : taps.Event) → ((tap : ℕ) → e ≡ event.Start tap → ⊥) → ((tap : ℕ) → e ≡ event.Stop tap → ⊥) → is_steady (event_of e) ≡ true
steady (event.Turn tap) no_start no_stop = refl
steady (event.Pass bits) no_start no_stop = refl
steady (event.Damage tap speaker place) no_start no_stop = refl
steady (event.Start tap) no_start no_stop = absurd (no_start tap refl)
steady (event.Stop tap) no_start no_stop = absurd (no_stop tap refl)
steady (event.Noise bits) no_start no_stop = refl
steady (event.Queue tap request) no_start no_stop = refl
steady (event.Unheard tap speaker) no_start no_stop = refl
