-- Within a greater limit of entries each event has the same effect, unless the trace is full.
use Rattle.std.proofs.Common.{◌≡◌, refl, subst, arith, ℕ, ◌+◌, ◌≤◌, ◌==◌, ◌||◌, ◌&&◌, nat_le, List, [], ◌∷◌, length, map, Bool, true, false, not, Option, Some, None, Ok, Result}
use Rattle.std.specs.Prelude.{find, is_none, is_some, slice_get, slice_set}
use Rattle.std.specs.List.{list_any}
use Rattle.std.proofs.lemmas.Bool.{leb-true, le-leb}
use Rattle.pb_faults.specs.FirstFault.{first_fault}
use Rattle.pb_cycles.specs.RequestFields.{RequestFields}
use Rattle.law_turn.specs.Stations.{list_for, pushed}
use Rattle.law_turn.specs.Turns.{turn_of}
use Rattle.law_model.specs.Trace.{Hit, begins_from, cut_at, unheard_at}
use Rattle.law_model.specs.Medium.{Tap, entry_at}
use Rattle.law_model.specs.World.{World, Event, Turn, Pass, Damage, Start, Stop, Queue, Noise, Unheard, Reply, Fault, NoSuchTap, Running, NotRunning, NothingInAir, ZeroTime, QueueFull, TraceFull, is_in_air_by, queue_limit, unless, unless_fault}
use Rattle.law_model.specs.Step.{change_first, halted, has_place, is_noisy, pass_faults, started_tap, step, step_damage, step_noise, step_pass, step_queue, step_start, step_stop, step_turn, step_unheard, told, with_hit, with_noise, with_said, world_after}
use Rattle.law_model.proofs.Worlds.{world_after-unless}
use Rattle.law_streams.specs.Limits.{is_full}
use Rattle.law_streams.proofs.Following.{of_step, step_is}

abbrev pub raised : ℕ → World → World
raised limit w = record w { limit = limit }

-- a step within the greater limit
abbrev pub raised_step : ℕ → Result (World × Reply) Fault → Result (World × Reply) Fault
raised_step limit o = of_step (raised limit) (λ (fault : Fault). fault) o

raised-unless : (limit : ℕ) (tests : List (Bool × Fault)) (w : World) (reply : Reply) → unless tests (raised limit w, reply) ≡ raised_step limit (unless tests (w, reply))
raised-unless limit tests w reply = by_fault (first_fault tests)
  where
    by_fault : (o : Option Fault) → unless_fault o (raised limit w, reply) ≡ raised_step limit (unless_fault o (w, reply))
    by_fault None = refl
    by_fault (Some f) = refl

-- a call that needs room for an entry, perhaps
raised-room : (limit : ℕ) (c s x y : Bool) (fault : Fault) (w : World) (reply : Reply) → (y ≡ true → x ≡ true)
    → step_is {X = World × Reply} is_full (unless ((c, fault) ∷ (s && x, TraceFull) ∷ []) (w, reply)) ≡ false
    → unless ((c, fault) ∷ (s && y, TraceFull) ∷ []) (raised limit w, reply) ≡ raised_step limit (unless ((c, fault) ∷ (s && x, TraceFull) ∷ []) (w, reply))
raised-room limit true s x y fault w reply more calm = refl
raised-room limit false false x y fault w reply more calm = refl
raised-room limit false true true y fault w reply more calm = absurd cc
raised-room limit false true false false fault w reply more calm = refl
raised-room limit false true false true fault w reply more calm = absurd (let wrong : false ≡ true = more refl in cc)

less-room : (few many n : ℕ) → few ≤ many → nat_le many n ≡ true → nat_le few n ≡ true
less-room few many n less full = le-leb few n (omega (arith, less, leb-true many n full))

raised-turn : (limit : ℕ) (w : World) (tap : ℕ) (o : Option Tap) → w.limit ≤ limit → step_is is_full (step_turn w tap o) ≡ false → step_turn (raised limit w) tap o ≡ raised_step limit (step_turn w tap o)
raised-turn limit w tap None more calm = refl
raised-turn limit w tap (Some t) more calm =
    let turn = turn_of w.params t.station t.marks w.now in
    raised-room limit (not t.running) (is_some turn.1) (nat_le w.limit (length w.trace)) (nat_le limit (length w.trace)) NotRunning
    (record w { trace = with_said tap turn.1 w.now w.taps w.trace; taps = slice_set w.taps tap (record t { station = turn.0; marks = [] }) })
    (record { now = w.now; spoke = turn.1 }) (less-room w.limit limit (length w.trace) more) calm

raised-pass : (limit : ℕ) (w : World) (d : ℕ) → step_pass (raised limit w) d ≡ raised_step limit (step_pass w d)
raised-pass limit w d =
    let now = w.now + d in
    let taps = told w.params.ttd w.trace w.now now 0 w.taps in
    raised-unless limit (pass_faults w d taps) (record w { now = now; taps = taps; trace = map (entry_at w.params.ttd w.taps w.trace w.now now) w.trace }) (record { now = now; spoke = None })

raised-damage : (limit : ℕ) (w : World) (tap speaker : ℕ) (place : Option ℕ) (at from : Option Tap) → step_damage (raised limit w) tap speaker place at from ≡ raised_step limit (step_damage w tap speaker place at from)
raised-damage limit w tap speaker place at from =
    let test = is_in_air_by w.params.ttd w.now speaker in
    let hit : Hit = record { tap = tap; place = place } in
    raised-unless limit ((is_none at || is_none from, NoSuchTap) ∷ (tap == speaker || not (has_place (find test w.trace) place), NothingInAir) ∷ [])
    (record w { trace = change_first test (with_hit hit) w.trace }) (record { now = w.now; spoke = None })

raised-start : (limit : ℕ) (w : World) (tap : ℕ) (o : Option Tap) → step_start (raised limit w) tap o ≡ raised_step limit (step_start w tap o)
raised-start limit w tap None = refl
raised-start limit w tap (Some t) =
    raised-unless limit ((t.running || list_any (is_in_air_by w.params.ttd w.now tap) w.trace, Running) ∷ [])
    (record w { taps = slice_set w.taps tap (started_tap w tap t) }) (record { now = w.now; spoke = None })

raised-stop : (limit : ℕ) (w : World) (tap : ℕ) (o : Option Tap) → step_stop (raised limit w) tap o ≡ raised_step limit (step_stop w tap o)
raised-stop limit w tap None = refl
raised-stop limit w tap (Some t) =
    raised-unless limit ((not t.running, NotRunning) ∷ [])
    (record w { trace = map (cut_at w.now tap) w.trace; taps = slice_set w.taps tap (halted t) }) (record { now = w.now; spoke = None })

raised-queue : (limit : ℕ) (w : World) (tap : ℕ) (r : RequestFields) (o : Option Tap) → step_queue (raised limit w) tap r o ≡ raised_step limit (step_queue w tap r o)
raised-queue limit w tap r None = refl
raised-queue limit w tap r (Some t) =
    raised-unless limit ((not (t.running && t.spec.master), NotRunning) ∷ (nat_le queue_limit (length (list_for t.station.cycles.queue r)), QueueFull) ∷ [])
    (record w { taps = slice_set w.taps tap (record t { station = pushed t.station r }) }) (record { now = w.now; spoke = None })

raised-noise : (limit : ℕ) (w : World) (bits : ℕ) (noisy : Bool) → w.limit ≤ limit → step_is is_full (step_noise w bits noisy) ≡ false → step_noise (raised limit w) bits noisy ≡ raised_step limit (step_noise w bits noisy)
raised-noise limit w bits noisy more calm =
    raised-room limit (bits == 0) (not noisy) (nat_le w.limit (length w.trace)) (nat_le limit (length w.trace)) ZeroTime
    (record w { trace = with_noise w.now (w.now + bits) noisy w.trace }) (record { now = w.now; spoke = None }) (less-room w.limit limit (length w.trace) more) calm

raised-unheard : (limit : ℕ) (w : World) (tap speaker : ℕ) (at from : Option Tap) → step_unheard (raised limit w) tap speaker at from ≡ raised_step limit (step_unheard w tap speaker at from)
raised-unheard limit w tap speaker at from =
    let test = begins_from w.now speaker in
    raised-unless limit ((is_none at || is_none from, NoSuchTap) ∷ (tap == speaker || not (list_any test w.trace), NothingInAir) ∷ [])
    (record w { trace = change_first test (unheard_at tap) w.trace }) (record { now = w.now; spoke = None })

pub step-raised : (limit : ℕ) (w : World) (e : Event) → w.limit ≤ limit → step_is is_full (step w e) ≡ false → step (raised limit w) e ≡ raised_step limit (step w e)
step-raised limit w (Turn tap) more calm = raised-turn limit w tap (slice_get w.taps tap) more calm
step-raised limit w (Pass d) more calm = raised-pass limit w d
step-raised limit w (Damage tap speaker place) more calm = raised-damage limit w tap speaker place (slice_get w.taps tap) (slice_get w.taps speaker)
step-raised limit w (Start tap) more calm = raised-start limit w tap (slice_get w.taps tap)
step-raised limit w (Stop tap) more calm = raised-stop limit w tap (slice_get w.taps tap)
step-raised limit w (Queue tap r) more calm = raised-queue limit w tap r (slice_get w.taps tap)
step-raised limit w (Noise bits) more calm = raised-noise limit w bits (is_noisy w) more calm
step-raised limit w (Unheard tap speaker) more calm = raised-unheard limit w tap speaker (slice_get w.taps tap) (slice_get w.taps speaker)

-- ---- the limit stays

limit-unless : (w next : World) (reply : Reply) (tests : List (Bool × Fault)) → next.limit ≡ w.limit → (world_after w (unless tests (next, reply))).limit ≡ w.limit
limit-unless w next reply tests same = world_after-unless (λ (x : World). x.limit ≡ w.limit) w next reply tests refl (λ _. same)

limit-turn : (w : World) (tap : ℕ) (o : Option Tap) → (world_after w (step_turn w tap o)).limit ≡ w.limit
limit-turn w tap None = refl
limit-turn w tap (Some t) =
    let turn = turn_of w.params t.station t.marks w.now in
    limit-unless w (record w { trace = with_said tap turn.1 w.now w.taps w.trace; taps = slice_set w.taps tap (record t { station = turn.0; marks = [] }) })
    (record { now = w.now; spoke = turn.1 }) ((not t.running, NotRunning) ∷ (is_some turn.1 && nat_le w.limit (length w.trace), TraceFull) ∷ []) refl

limit-start : (w : World) (tap : ℕ) (o : Option Tap) → (world_after w (step_start w tap o)).limit ≡ w.limit
limit-start w tap None = refl
limit-start w tap (Some t) =
    limit-unless w (record w { taps = slice_set w.taps tap (started_tap w tap t) }) (record { now = w.now; spoke = None })
    ((t.running || list_any (is_in_air_by w.params.ttd w.now tap) w.trace, Running) ∷ []) refl

limit-stop : (w : World) (tap : ℕ) (o : Option Tap) → (world_after w (step_stop w tap o)).limit ≡ w.limit
limit-stop w tap None = refl
limit-stop w tap (Some t) =
    limit-unless w (record w { trace = map (cut_at w.now tap) w.trace; taps = slice_set w.taps tap (halted t) }) (record { now = w.now; spoke = None })
    ((not t.running, NotRunning) ∷ []) refl

limit-queue : (w : World) (tap : ℕ) (r : RequestFields) (o : Option Tap) → (world_after w (step_queue w tap r o)).limit ≡ w.limit
limit-queue w tap r None = refl
limit-queue w tap r (Some t) =
    limit-unless w (record w { taps = slice_set w.taps tap (record t { station = pushed t.station r }) }) (record { now = w.now; spoke = None })
    ((not (t.running && t.spec.master), NotRunning) ∷ (nat_le queue_limit (length (list_for t.station.cycles.queue r)), QueueFull) ∷ []) refl

limit-pass : (w : World) (d : ℕ) → (world_after w (step_pass w d)).limit ≡ w.limit
limit-pass w d =
    let now = w.now + d in
    let taps = told w.params.ttd w.trace w.now now 0 w.taps in
    limit-unless w (record w { now = now; taps = taps; trace = map (entry_at w.params.ttd w.taps w.trace w.now now) w.trace }) (record { now = now; spoke = None }) (pass_faults w d taps) refl

limit-damage : (w : World) (tap speaker : ℕ) (place : Option ℕ) (at from : Option Tap) → (world_after w (step_damage w tap speaker place at from)).limit ≡ w.limit
limit-damage w tap speaker place at from =
    let test = is_in_air_by w.params.ttd w.now speaker in
    let hit : Hit = record { tap = tap; place = place } in
    limit-unless w (record w { trace = change_first test (with_hit hit) w.trace }) (record { now = w.now; spoke = None })
    ((is_none at || is_none from, NoSuchTap) ∷ (tap == speaker || not (has_place (find test w.trace) place), NothingInAir) ∷ []) refl

limit-noise : (w : World) (bits : ℕ) (noisy : Bool) → (world_after w (step_noise w bits noisy)).limit ≡ w.limit
limit-noise w bits noisy =
    limit-unless w (record w { trace = with_noise w.now (w.now + bits) noisy w.trace }) (record { now = w.now; spoke = None })
    ((bits == 0, ZeroTime) ∷ (not noisy && nat_le w.limit (length w.trace), TraceFull) ∷ []) refl

limit-unheard : (w : World) (tap speaker : ℕ) (at from : Option Tap) → (world_after w (step_unheard w tap speaker at from)).limit ≡ w.limit
limit-unheard w tap speaker at from =
    let test = begins_from w.now speaker in
    limit-unless w (record w { trace = change_first test (unheard_at tap) w.trace }) (record { now = w.now; spoke = None })
    ((is_none at || is_none from, NoSuchTap) ∷ (tap == speaker || not (list_any test w.trace), NothingInAir) ∷ []) refl

limit-after : (w : World) (e : Event) → (world_after w (step w e)).limit ≡ w.limit
limit-after w (Turn tap) = limit-turn w tap (slice_get w.taps tap)
limit-after w (Pass d) = limit-pass w d
limit-after w (Damage tap speaker place) = limit-damage w tap speaker place (slice_get w.taps tap) (slice_get w.taps speaker)
limit-after w (Start tap) = limit-start w tap (slice_get w.taps tap)
limit-after w (Stop tap) = limit-stop w tap (slice_get w.taps tap)
limit-after w (Queue tap r) = limit-queue w tap r (slice_get w.taps tap)
limit-after w (Noise bits) = limit-noise w bits (is_noisy w)
limit-after w (Unheard tap speaker) = limit-unheard w tap speaker (slice_get w.taps tap) (slice_get w.taps speaker)

pub limit-same : (w next : World) (e : Event) (reply : Reply) → step w e ≡ Ok (next, reply) → next.limit ≡ w.limit
limit-same w next e reply ok = subst (λ o. (world_after w o).limit ≡ w.limit) ok (limit-after w e)
