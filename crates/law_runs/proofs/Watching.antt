-- What follows a list of events says as much as the events themselves.
use Rattle.std.proofs.Common.{◌≡◌, ◌∙◌, ap, sym, subst, refl, arith, ℕ, ◌+◌, ◌<◌, ◌≤◌, ◌==◌, ◌||◌, ◌&&◌, nat_le, not, List, [], ◌∷◌, ◌++◌, map, length, Bool, true, false, if◌then◌else◌, Option, Some, None, Result, Ok}
use Rattle.std.specs.Prelude.{slice_get, slice_set, is_some, is_none, find, IfSome}
use Rattle.std.specs.List.{list_any}
use Rattle.std.proofs.Math.Bool.{or-false}
use Rattle.std.proofs.lemmas.Bool.{eqb-false}
use Rattle.std.proofs.lemmas.List.{length-set}
use Rattle.pb_timers.specs.Timers.{Params}
use Rattle.std.proofs.lemmas.Bool.Decides.{nat_tests}
use Rattle.pb_cycles.specs.RequestFields.{RequestFields}
use Rattle.law_turn.specs.Stations.{list_for, pushed}
use Rattle.law_turn.specs.Turns.{turn_of}
use Rattle.law_model.specs.Trace.{Hit, Entry, cut_at, is_noise_at, noisy_until, begins_from, unheard_at}
use Rattle.law_model.specs.Medium.{Tap, entry_at}
use Rattle.law_model.specs.World.{World, Event, Turn, Pass, Damage, Start, Stop, Queue, Noise, Unheard, Reply, Fault, NoSuchTap, Running, NotRunning, NothingInAir, ZeroTime, QueueFull, TraceFull, trace_limit, is_in_air_by, queue_limit}
use Rattle.law_model.specs.Step.{sending, with_said, step_turn, told, pass_faults, step_pass, with_hit, change_first, has_place, step_damage, started_tap, step_start, halted, step_stop, step_queue, with_noise, is_noisy, step_noise, step_unheard, step, world_after}
use Rattle.law_model.specs.Laws.{IsSound}
use Rattle.law_model.proofs.Cases.{by_test}
use Rattle.law_model.proofs.Worlds.{world_after-unless, unless-Ok, later-replay}
use Rattle.law_runs.specs.Premises.{Waited, Broken, Course, has_waited, waited_by, meets, two_have_waited, has_namesakes, loses, comes_late, first_number, broken_by, broken_or, followed}
use Rattle.law_runs.specs.Quiet.{quiet_at, quiet_in, quiet_after}
use Rattle.law_runs.specs.Watching.{Watched, meets_last, new_meet, last_waited, watched_after, StandsFor}
use Rattle.law_runs.proofs.Quiets.{quiet-speech, quiet-damaged, quiet-unheard, quiet-cut, quiet-noise, quiet-passed}
use Rattle.std.proofs.Math.Bool.{or-true}

-- ---- the silence

-- each tap is in silence after an event since when it was before
abbrev AsQuiet : World → World × Reply → Type 0
AsQuiet w x = (tap : ℕ) → quiet_in x.0 tap ≡ quiet_in w tap

quiet-spoken : (w : World) (tap : ℕ) (o : Option (List ℕ)) (k : ℕ) → quiet_at w.params.ttd k w.now (with_said tap o w.now w.taps w.trace) ≡ quiet_at w.params.ttd k w.now w.trace
quiet-spoken w tap None k = refl
quiet-spoken w tap (Some octets) k = quiet-speech w.params.ttd k w.now (sending tap octets w.now w.taps) w.trace refl

quiet-turn : (w next : World) (tap : ℕ) (reply : Reply) (o : Option Tap) → step_turn w tap o ≡ Ok (next, reply) → AsQuiet w (next, reply)
quiet-turn w next tap reply None ok = absurd cc
quiet-turn w next tap reply (Some t) ok =
    let turn = turn_of w.params t.station t.marks w.now in
    let y : Tap = record t { station = turn.0; marks = [] } in
    let made : World × Reply = (record w { trace = with_said tap turn.1 w.now w.taps w.trace; taps = slice_set w.taps tap y }, record { now = w.now; spoke = turn.1 }) in
    let is = unless-Ok ((not t.running, NotRunning) ∷ (is_some turn.1 && nat_le w.limit (length w.trace), TraceFull) ∷ []) made (next, reply) ok in
    subst (AsQuiet w) is.1 (quiet-spoken w tap turn.1)

quiet-pass : (w next : World) (bits : ℕ) (reply : Reply) → IsSound w → step_pass w bits ≡ Ok (next, reply) → (tap : ℕ) → quiet_in next tap ≡ quiet_after w (Pass bits) tap (quiet_in w tap)
quiet-pass w next bits reply sound ok tap =
    let to = w.now + bits in
    let taps = told w.params.ttd w.trace w.now to 0 w.taps in
    let made : World × Reply = (record w { now = to; taps = taps; trace = map (entry_at w.params.ttd w.taps w.trace w.now to) w.trace }, record { now = to; spoke = None }) in
    let is = unless-Ok (pass_faults w bits taps) made (next, reply) ok in
    let some : bits ≡ 0 → ⊥ = eqb-false bits 0 is.0.0 in
    let later : w.now < to = grind (arith, some) in
    subst (λ (x : World × Reply). quiet_in x.0 tap ≡ quiet_after w (Pass bits) tap (quiet_in w tap)) is.1
    (quiet-passed w.params.ttd tap w.now to w.taps w.trace later sound.begun is.0.1.0)

quiet-damage : (w next : World) (tap speaker : ℕ) (place : Option ℕ) (reply : Reply) (at from : Option Tap) → step_damage w tap speaker place at from ≡ Ok (next, reply) → AsQuiet w (next, reply)
quiet-damage w next tap speaker place reply at from ok =
    let in_air = is_in_air_by w.params.ttd w.now speaker in
    let made : World × Reply = (record w { trace = change_first in_air (with_hit (record { tap = tap; place = place })) w.trace }, record { now = w.now; spoke = None }) in
    let is = unless-Ok ((is_none at || is_none from, NoSuchTap) ∷ (tap == speaker || not (has_place (find in_air w.trace) place), NothingInAir) ∷ []) made (next, reply) ok in
    subst (AsQuiet w) is.1 (λ k. quiet-damaged w.params.ttd k w.now in_air (record { tap = tap; place = place }) w.trace)

quiet-start : (w next : World) (tap : ℕ) (reply : Reply) (o : Option Tap) → step_start w tap o ≡ Ok (next, reply) → AsQuiet w (next, reply)
quiet-start w next tap reply None ok = absurd cc
quiet-start w next tap reply (Some t) ok =
    let made : World × Reply = (record w { taps = slice_set w.taps tap (started_tap w tap t) }, record { now = w.now; spoke = None }) in
    let is = unless-Ok ((t.running || list_any (is_in_air_by w.params.ttd w.now tap) w.trace, Running) ∷ []) made (next, reply) ok in
    subst (AsQuiet w) is.1 (λ k. refl)

quiet-stop : (w next : World) (tap : ℕ) (reply : Reply) (o : Option Tap) → step_stop w tap o ≡ Ok (next, reply) → AsQuiet w (next, reply)
quiet-stop w next tap reply None ok = absurd cc
quiet-stop w next tap reply (Some t) ok =
    let made : World × Reply = (record w { trace = map (cut_at w.now tap) w.trace; taps = slice_set w.taps tap (halted t) }, record { now = w.now; spoke = None }) in
    let is = unless-Ok ((not t.running, NotRunning) ∷ []) made (next, reply) ok in
    subst (AsQuiet w) is.1 (λ k. quiet-cut w.params.ttd k w.now tap w.trace)

quiet-queue : (w next : World) (tap : ℕ) (r : RequestFields) (reply : Reply) (o : Option Tap) → step_queue w tap r o ≡ Ok (next, reply) → AsQuiet w (next, reply)
quiet-queue w next tap r reply None ok = absurd cc
quiet-queue w next tap r reply (Some t) ok =
    let made : World × Reply = (record w { taps = slice_set w.taps tap (record t { station = pushed t.station r }) }, record { now = w.now; spoke = None }) in
    let is = unless-Ok ((not (t.running && t.spec.master), NotRunning) ∷ (nat_le queue_limit (length (list_for t.station.cycles.queue r)), QueueFull) ∷ []) made (next, reply) ok in
    let y : Tap = record t { station = pushed t.station r } in
    subst (AsQuiet w) is.1 (λ k. refl)

quiet-noisy : (w next : World) (bits : ℕ) (noisy : Bool) (reply : Reply) → step_noise w bits noisy ≡ Ok (next, reply) → AsQuiet w (next, reply)
quiet-noisy w next bits noisy reply ok =
    let made : World × Reply = (record w { trace = with_noise w.now (w.now + bits) noisy w.trace }, record { now = w.now; spoke = None }) in
    let is = unless-Ok ((bits == 0, ZeroTime) ∷ (not noisy && nat_le w.limit (length w.trace), TraceFull) ∷ []) made (next, reply) ok in
    subst (AsQuiet w) is.1 (λ k. quiet-noise w.params.ttd k w.now (w.now + bits) noisy w.trace (omega arith))

quiet-lost : (w next : World) (tap speaker : ℕ) (reply : Reply) (at from : Option Tap) → step_unheard w tap speaker at from ≡ Ok (next, reply) → AsQuiet w (next, reply)
quiet-lost w next tap speaker reply at from ok =
    let begins = begins_from w.now speaker in
    let made : World × Reply = (record w { trace = change_first begins (unheard_at tap) w.trace }, record { now = w.now; spoke = None }) in
    let is = unless-Ok ((is_none at || is_none from, NoSuchTap) ∷ (tap == speaker || not (list_any begins w.trace), NothingInAir) ∷ []) made (next, reply) ok in
    subst (AsQuiet w) is.1 (λ k. quiet-unheard w.params.ttd k w.now tap begins w.trace)

-- only where time passes while something is active at a tap, its silence begins anew
pub quiet-step : (w next : World) (e : Event) (reply : Reply) → IsSound w → step w e ≡ Ok (next, reply) → (tap : ℕ) → quiet_in next tap ≡ quiet_after w e tap (quiet_in w tap)
quiet-step w next (Turn tap) reply sound ok = quiet-turn w next tap reply (slice_get w.taps tap) ok
quiet-step w next (Pass bits) reply sound ok = quiet-pass w next bits reply sound ok
quiet-step w next (Damage tap speaker place) reply sound ok = quiet-damage w next tap speaker place reply (slice_get w.taps tap) (slice_get w.taps speaker) ok
quiet-step w next (Start tap) reply sound ok = quiet-start w next tap reply (slice_get w.taps tap) ok
quiet-step w next (Stop tap) reply sound ok = quiet-stop w next tap reply (slice_get w.taps tap) ok
quiet-step w next (Queue tap r) reply sound ok = quiet-queue w next tap r reply (slice_get w.taps tap) ok
quiet-step w next (Noise bits) reply sound ok = quiet-noisy w next bits (is_noisy w) reply ok
quiet-step w next (Unheard tap speaker) reply sound ok = quiet-lost w next tap speaker reply (slice_get w.taps tap) (slice_get w.taps speaker) ok

-- ---- what taps had waited out

-- taps from a position on, in order, that have waited out at a moment
abbrev AllNew : ℕ → ℕ → List Waited → Type 0
AllNew now from [] = Unit {0}
AllNew now from (one ∷ more) = (from ≤ one.tap) × (one.moment ≡ now) × AllNew now (one.tap + 1) more

new-from : (now from to : ℕ) (new : List Waited) → from ≤ to → AllNew now to new → AllNew now from new
new-from now from to [] le all = tt
new-from now from to (one ∷ more) le all = (omega (arith, all.0), all.1, all.2)

new-waited : (w : World) (tap : ℕ) (taps : List Tap) → AllNew w.now tap (waited_by w tap taps)
new-waited w tap [] = tt
new-waited w tap (t ∷ ts) =
    let rest = new-waited w (tap + 1) ts in
    by_test (λ (new : List Waited). AllNew w.now tap new) (has_waited w tap t) (record { tap = tap; moment = w.now } ∷ waited_by w (tap + 1) ts) (waited_by w (tap + 1) ts)
    (λ _. (omega arith, refl, rest)) (λ _. new-from w.now tap (tap + 1) (waited_by w (tap + 1) ts) (omega arith) rest)

meets-itself : (delay : ℕ) (one : Waited) → meets delay one one ≡ false
meets-itself delay one = grind (arith, nat_tests)

meets-next : (delay now : ℕ) (one other : Waited) → one.moment ≡ now → other.moment ≡ now → one.tap < other.tap → meets delay one other ≡ true
meets-next delay now one other at too before = grind (arith, nat_tests)

or-none : (a b : Bool) → a ≡ false → (a || b) ≡ b
or-none true b e = absurd cc
or-none false b e = refl

-- whether two meet is decided by those that have waited out now and the last one before
two-meet : (delay now : ℕ) (new old : List Waited) (last : Option Waited) → AllNew now 0 new
    → ((one : Waited) → now ≤ one.moment → list_any (meets delay one) old ≡ meets_last delay one last)
    → two_have_waited delay new (new ++ old) ≡ new_meet delay new last
two-meet delay now [] old last all decides = refl
two-meet delay now (one ∷ []) old last all decides =
    or-false (meets delay one one || list_any (meets delay one) old)
    ∙ or-none (meets delay one one) (list_any (meets delay one) old) (meets-itself delay one)
    ∙ decides one (omega (arith, all.1))
two-meet delay now (one ∷ other ∷ more) old last all decides =
    let met = meets-next delay now one other all.1 all.2.1 (omega (arith, all.2.0)) in
    ap (λ (b : Bool). (meets delay one one || (b || list_any (meets delay one) (more ++ old))) || list_any (λ x. list_any (meets delay x) (one ∷ other ∷ more ++ old)) (other ∷ more)) met
    ∙ ap (λ (b : Bool). b || list_any (λ x. list_any (meets delay x) (one ∷ other ∷ more ++ old)) (other ∷ more)) (or-true (meets delay one one))

absorbed : (a b : Bool) → (b ≡ true → a ≡ true) → (a || b) ≡ a
absorbed true b more = refl
absorbed false true more = sym (more refl)
absorbed false false more = refl

-- where a tap meets the last one before, and the new last one doesn't, the tap meets that
meets-both : (delay : ℕ) (one new last : Waited) → last.moment ≤ new.moment → new.moment ≤ one.moment → meets delay new last ≡ false → meets delay one last ≡ true
    → meets delay one new ≡ true
meets-both delay one new last before later apart met = grind (arith, nat_tests)

next-decides : (delay : ℕ) (new : Waited) (last : Option Waited) (old : List Waited) → IfSome last (λ l. l.moment ≤ new.moment) → meets_last delay new last ≡ false
    → ((one : Waited) → new.moment ≤ one.moment → list_any (meets delay one) old ≡ meets_last delay one last)
    → (one : Waited) → new.moment ≤ one.moment → list_any (meets delay one) (new ∷ old) ≡ meets delay one new
next-decides delay new None old before apart decides one later = ap (λ (b : Bool). meets delay one new || b) (decides one later) ∙ or-false (meets delay one new)
next-decides delay new (Some last) old before apart decides one later =
    ap (λ (b : Bool). meets delay one new || b) (decides one later)
    ∙ absorbed (meets delay one new) (meets delay one last) (meets-both delay one new last before later apart)

-- ---- an event

broken-none : (o : Option Broken) (clock : ℕ) (number : Option ℕ) → broken_or o clock number ≡ None → (o ≡ None) × (number ≡ None)
broken-none None clock None e = (refl, refl)
broken-none None clock (Some n) e = absurd cc
broken-none (Some b) clock number e = absurd cc

none-met : (a b c d : Bool) → first_number a b c d ≡ None → d ≡ false
none-met true b c d e = absurd cc
none-met false true c d e = absurd cc
none-met false false true d e = absurd cc
none-met false false false true e = absurd cc
none-met false false false false e = refl

broken-same : (o : Option Broken) (clock : ℕ) (a b c d e : Bool) → (o ≡ None → d ≡ e) → broken_or o clock (first_number a b c d) ≡ broken_or o clock (first_number a b c e)
broken-same None clock a b c d e same = ap (λ (x : Bool). broken_or None clock (first_number a b c x)) (same refl)
broken-same (Some before) clock a b c d e same = refl

last-before : (now next : ℕ) (new : List Waited) (last : Option Waited) → now ≤ next → AllNew next 0 new → IfSome last (λ l. l.moment ≤ now) → IfSome (last_waited new last) (λ l. l.moment ≤ next)
last-before now next [] None later all before = tt
last-before now next [] (Some l) later all before = omega (arith, before)
last-before now next (one ∷ more) last later all before = omega (arith, all.1)

last-next : (now next : ℕ) (last : Option Waited) → now ≤ next → IfSome last (λ l. l.moment ≤ now) → IfSome last (λ l. l.moment ≤ next)
last-next now next last later before = last-before now next [] last later tt before

last-decides : (delay now next : ℕ) (new old : List Waited) (last : Option Waited) → now ≤ next → AllNew next 0 new → IfSome last (λ l. l.moment ≤ now)
    → new_meet delay new last ≡ false
    → ((one : Waited) → now ≤ one.moment → list_any (meets delay one) old ≡ meets_last delay one last)
    → (one : Waited) → next ≤ one.moment → list_any (meets delay one) (new ++ old) ≡ meets_last delay one (last_waited new last)
last-decides delay now next [] old last later all before apart decides one from = decides one (omega arith)
last-decides delay now next (new ∷ []) old last later all before apart decides one from =
    next-decides delay new last old (last-next now new.moment last (omega (arith, all.1)) before) apart (λ x at. decides x (omega (arith, all.1))) one (omega (arith, all.1))
last-decides delay now next (new ∷ other ∷ more) old last later all before apart decides one from = absurd cc

pub later-world : (w next : World) (e : Event) (reply : Reply) → step w e ≡ Ok (next, reply) → w.now ≤ next.now
later-world w next e reply ok = subst (λ (r : Result (World × Reply) Fault). w.now ≤ (world_after w r).now) ok (later-replay w (e ∷ []))

-- the parameters stay

bus-turn : (w : World) (tap : ℕ) (o : Option Tap) → (world_after w (step_turn w tap o)).params ≡ w.params
bus-turn w tap None = refl
bus-turn w tap (Some t) =
    let turn = turn_of w.params t.station t.marks w.now in
    world_after-unless (λ (x : World). x.params ≡ w.params) w
    (record w { trace = with_said tap turn.1 w.now w.taps w.trace; taps = slice_set w.taps tap (record t { station = turn.0; marks = [] }) })
    (record { now = w.now; spoke = turn.1 })
    ((not t.running, NotRunning) ∷ (is_some turn.1 && nat_le w.limit (length w.trace), TraceFull) ∷ [])
    refl (λ _. refl)

bus-pass : (w : World) (d : ℕ) → (world_after w (step_pass w d)).params ≡ w.params
bus-pass w d =
    let now = w.now + d in
    let taps = told w.params.ttd w.trace w.now now 0 w.taps in
    world_after-unless (λ (x : World). x.params ≡ w.params) w (record w { now = now; taps = taps; trace = map (entry_at w.params.ttd w.taps w.trace w.now now) w.trace })
    (record { now = now; spoke = None }) (pass_faults w d taps) refl (λ _. refl)

bus-damage : (w : World) (tap speaker : ℕ) (place : Option ℕ) (at from : Option Tap) → (world_after w (step_damage w tap speaker place at from)).params ≡ w.params
bus-damage w tap speaker place at from =
    let in_air = is_in_air_by w.params.ttd w.now speaker in
    let hit : Hit = record { tap = tap; place = place } in
    world_after-unless (λ (x : World). x.params ≡ w.params) w (record w { trace = change_first in_air (with_hit hit) w.trace }) (record { now = w.now; spoke = None })
    ((is_none at || is_none from, NoSuchTap) ∷ (tap == speaker || not (has_place (find in_air w.trace) place), NothingInAir) ∷ [])
    refl (λ _. refl)

bus-start : (w : World) (tap : ℕ) (o : Option Tap) → (world_after w (step_start w tap o)).params ≡ w.params
bus-start w tap None = refl
bus-start w tap (Some t) =
    world_after-unless (λ (x : World). x.params ≡ w.params) w (record w { taps = slice_set w.taps tap (started_tap w tap t) }) (record { now = w.now; spoke = None })
    ((t.running || list_any (is_in_air_by w.params.ttd w.now tap) w.trace, Running) ∷ [])
    refl (λ _. refl)

bus-stop : (w : World) (tap : ℕ) (o : Option Tap) → (world_after w (step_stop w tap o)).params ≡ w.params
bus-stop w tap None = refl
bus-stop w tap (Some t) =
    world_after-unless (λ (x : World). x.params ≡ w.params) w (record w { trace = map (cut_at w.now tap) w.trace; taps = slice_set w.taps tap (halted t) }) (record { now = w.now; spoke = None })
    ((not t.running, NotRunning) ∷ []) refl (λ _. refl)

bus-queue : (w : World) (tap : ℕ) (r : RequestFields) (o : Option Tap) → (world_after w (step_queue w tap r o)).params ≡ w.params
bus-queue w tap r None = refl
bus-queue w tap r (Some t) =
    world_after-unless (λ (x : World). x.params ≡ w.params) w (record w { taps = slice_set w.taps tap (record t { station = pushed t.station r }) }) (record { now = w.now; spoke = None })
    ((not (t.running && t.spec.master), NotRunning) ∷ (nat_le queue_limit (length (list_for t.station.cycles.queue r)), QueueFull) ∷ [])
    refl (λ _. refl)

bus-noise : (w : World) (bits : ℕ) (noisy : Bool) → (world_after w (step_noise w bits noisy)).params ≡ w.params
bus-noise w bits noisy =
    world_after-unless (λ (x : World). x.params ≡ w.params) w (record w { trace = with_noise w.now (w.now + bits) noisy w.trace }) (record { now = w.now; spoke = None })
    ((bits == 0, ZeroTime) ∷ (not noisy && nat_le w.limit (length w.trace), TraceFull) ∷ []) refl (λ _. refl)

bus-unheard : (w : World) (tap speaker : ℕ) (at from : Option Tap) → (world_after w (step_unheard w tap speaker at from)).params ≡ w.params
bus-unheard w tap speaker at from =
    let begins = begins_from w.now speaker in
    world_after-unless (λ (x : World). x.params ≡ w.params) w (record w { trace = change_first begins (unheard_at tap) w.trace }) (record { now = w.now; spoke = None })
    ((is_none at || is_none from, NoSuchTap) ∷ (tap == speaker || not (list_any begins w.trace), NothingInAir) ∷ [])
    refl (λ _. refl)

bus-step : (w : World) (e : Event) → (world_after w (step w e)).params ≡ w.params
bus-step w (Turn tap) = bus-turn w tap (slice_get w.taps tap)
bus-step w (Pass d) = bus-pass w d
bus-step w (Damage tap speaker place) = bus-damage w tap speaker place (slice_get w.taps tap) (slice_get w.taps speaker)
bus-step w (Start tap) = bus-start w tap (slice_get w.taps tap)
bus-step w (Stop tap) = bus-stop w tap (slice_get w.taps tap)
bus-step w (Queue tap r) = bus-queue w tap r (slice_get w.taps tap)
bus-step w (Noise bits) = bus-noise w bits (is_noisy w)
bus-step w (Unheard tap speaker) = bus-unheard w tap speaker (slice_get w.taps tap) (slice_get w.taps speaker)

same-params : (w next : World) (e : Event) (reply : Reply) → step w e ≡ Ok (next, reply) → next.params ≡ w.params
same-params w next e reply ok = subst (λ (r : Result (World × Reply) Fault). (world_after w r).params ≡ w.params) ok (bus-step w e)

-- as many taps stay

told-length : (delay : ℕ) (trace : List Entry) (from to tap : ℕ) (ts : List Tap) → length (told delay trace from to tap ts) ≡ length ts
told-length delay trace from to tap [] = refl
told-length delay trace from to tap (t ∷ ts) = omega (arith, told-length delay trace from to (tap + 1) ts)

taps-turn : (w : World) (tap : ℕ) (o : Option Tap) → length ((world_after w (step_turn w tap o)).taps) ≡ length w.taps
taps-turn w tap None = refl
taps-turn w tap (Some t) =
    let turn = turn_of w.params t.station t.marks w.now in
    world_after-unless (λ (x : World). length x.taps ≡ length w.taps) w
    (record w { trace = with_said tap turn.1 w.now w.taps w.trace; taps = slice_set w.taps tap (record t { station = turn.0; marks = [] }) })
    (record { now = w.now; spoke = turn.1 })
    ((not t.running, NotRunning) ∷ (is_some turn.1 && nat_le w.limit (length w.trace), TraceFull) ∷ [])
    refl (λ _. length-set w.taps tap (record t { station = turn.0; marks = [] }))

taps-pass : (w : World) (d : ℕ) → length ((world_after w (step_pass w d)).taps) ≡ length w.taps
taps-pass w d =
    let now = w.now + d in
    let taps = told w.params.ttd w.trace w.now now 0 w.taps in
    world_after-unless (λ (x : World). length x.taps ≡ length w.taps) w (record w { now = now; taps = taps; trace = map (entry_at w.params.ttd w.taps w.trace w.now now) w.trace })
    (record { now = now; spoke = None }) (pass_faults w d taps) refl (λ _. told-length w.params.ttd w.trace w.now now 0 w.taps)

taps-damage : (w : World) (tap speaker : ℕ) (place : Option ℕ) (at from : Option Tap) → length ((world_after w (step_damage w tap speaker place at from)).taps) ≡ length w.taps
taps-damage w tap speaker place at from =
    let in_air = is_in_air_by w.params.ttd w.now speaker in
    let hit : Hit = record { tap = tap; place = place } in
    world_after-unless (λ (x : World). length x.taps ≡ length w.taps) w (record w { trace = change_first in_air (with_hit hit) w.trace }) (record { now = w.now; spoke = None })
    ((is_none at || is_none from, NoSuchTap) ∷ (tap == speaker || not (has_place (find in_air w.trace) place), NothingInAir) ∷ [])
    refl (λ _. refl)

taps-start : (w : World) (tap : ℕ) (o : Option Tap) → length ((world_after w (step_start w tap o)).taps) ≡ length w.taps
taps-start w tap None = refl
taps-start w tap (Some t) =
    world_after-unless (λ (x : World). length x.taps ≡ length w.taps) w (record w { taps = slice_set w.taps tap (started_tap w tap t) }) (record { now = w.now; spoke = None })
    ((t.running || list_any (is_in_air_by w.params.ttd w.now tap) w.trace, Running) ∷ [])
    refl (λ _. length-set w.taps tap (started_tap w tap t))

taps-stop : (w : World) (tap : ℕ) (o : Option Tap) → length ((world_after w (step_stop w tap o)).taps) ≡ length w.taps
taps-stop w tap None = refl
taps-stop w tap (Some t) =
    world_after-unless (λ (x : World). length x.taps ≡ length w.taps) w (record w { trace = map (cut_at w.now tap) w.trace; taps = slice_set w.taps tap (halted t) }) (record { now = w.now; spoke = None })
    ((not t.running, NotRunning) ∷ []) refl (λ _. length-set w.taps tap (halted t))

taps-queue : (w : World) (tap : ℕ) (r : RequestFields) (o : Option Tap) → length ((world_after w (step_queue w tap r o)).taps) ≡ length w.taps
taps-queue w tap r None = refl
taps-queue w tap r (Some t) =
    world_after-unless (λ (x : World). length x.taps ≡ length w.taps) w (record w { taps = slice_set w.taps tap (record t { station = pushed t.station r }) }) (record { now = w.now; spoke = None })
    ((not (t.running && t.spec.master), NotRunning) ∷ (nat_le queue_limit (length (list_for t.station.cycles.queue r)), QueueFull) ∷ [])
    refl (λ _. length-set w.taps tap (record t { station = pushed t.station r }))

taps-noise : (w : World) (bits : ℕ) (noisy : Bool) → length ((world_after w (step_noise w bits noisy)).taps) ≡ length w.taps
taps-noise w bits noisy =
    world_after-unless (λ (x : World). length x.taps ≡ length w.taps) w (record w { trace = with_noise w.now (w.now + bits) noisy w.trace }) (record { now = w.now; spoke = None })
    ((bits == 0, ZeroTime) ∷ (not noisy && nat_le w.limit (length w.trace), TraceFull) ∷ []) refl (λ _. refl)

taps-unheard : (w : World) (tap speaker : ℕ) (at from : Option Tap) → length ((world_after w (step_unheard w tap speaker at from)).taps) ≡ length w.taps
taps-unheard w tap speaker at from =
    let begins = begins_from w.now speaker in
    world_after-unless (λ (x : World). length x.taps ≡ length w.taps) w (record w { trace = change_first begins (unheard_at tap) w.trace }) (record { now = w.now; spoke = None })
    ((is_none at || is_none from, NoSuchTap) ∷ (tap == speaker || not (list_any begins w.trace), NothingInAir) ∷ [])
    refl (λ _. refl)

taps-step : (w : World) (e : Event) → length ((world_after w (step w e)).taps) ≡ length w.taps
taps-step w (Turn tap) = taps-turn w tap (slice_get w.taps tap)
taps-step w (Pass d) = taps-pass w d
taps-step w (Damage tap speaker place) = taps-damage w tap speaker place (slice_get w.taps tap) (slice_get w.taps speaker)
taps-step w (Start tap) = taps-start w tap (slice_get w.taps tap)
taps-step w (Stop tap) = taps-stop w tap (slice_get w.taps tap)
taps-step w (Queue tap r) = taps-queue w tap r (slice_get w.taps tap)
taps-step w (Noise bits) = taps-noise w bits (is_noisy w)
taps-step w (Unheard tap speaker) = taps-unheard w tap speaker (slice_get w.taps tap) (slice_get w.taps speaker)

pub many-taps : (w next : World) (e : Event) (reply : Reply) → step w e ≡ Ok (next, reply) → length next.taps ≡ length w.taps
many-taps w next e reply ok = subst (λ (r : Result (World × Reply) Fault). length (world_after w r).taps ≡ length w.taps) ok (taps-step w e)

stands-next : (v : Watched) (c : Course) (next : World) (e : Event) (reply : Reply) → step c.world e ≡ Ok (next, reply) → StandsFor v c
    → StandsFor (watched_after v c.world e next) (followed c e (Ok (next, reply)))
stands-next v c next e reply ok stands =
    let new = waited_by next 0 next.taps in
    let all = new-waited next 0 next.taps in
    let later = later-world c.world next e reply ok in
    let delay = next.params.ttd in
    let bus : c.world.params.ttd ≡ delay = sym (ap (λ (p : Params). p.ttd) (same-params c.world next e reply ok)) in
    let decides : c.broken ≡ None → (one : Waited) → c.world.now ≤ one.moment → list_any (meets delay one) c.waited ≡ meets_last delay one v.waited =
    λ none one at. subst (λ (d : ℕ). list_any (meets d one) c.waited ≡ meets_last d one v.waited) bus (stands.decides none one at) in
    let same : c.broken ≡ None → two_have_waited delay new (new ++ c.waited) ≡ new_meet delay new v.waited =
    λ none. two-meet delay next.now new c.waited v.waited all (λ one at. decides none one (omega (arith, later))) in
    record {
      broken = ap (λ (o : Option Broken). broken_or o next.now (first_number (has_namesakes next.taps) (loses e) (comes_late c.world e) (new_meet delay new v.waited))) stands.broken
          ∙ sym (broken-same c.broken next.now (has_namesakes next.taps) (loses e) (comes_late c.world e) (two_have_waited delay new (new ++ c.waited)) (new_meet delay new v.waited) same);
      before = last-before c.world.now next.now new v.waited later all stands.before;
      decides = λ none one from.
          let parts = broken-none c.broken next.now (broken_by c.world e next new (new ++ c.waited)) none in
          let unmet = none-met (has_namesakes next.taps) (loses e) (comes_late c.world e) (two_have_waited delay new (new ++ c.waited)) parts.1 in
          last-decides delay c.world.now next.now new c.waited v.waited later all stands.before (sym (same parts.0) ∙ unmet) (λ x at. decides parts.0 x at) one from;
    }

-- an event that is accepted leads to what stands for it
pub stands-followed : (v : Watched) (c : Course) (next : World) (e : Event) (reply : Reply) → step c.world e ≡ Ok (next, reply) → StandsFor v c
    → StandsFor (watched_after v c.world e next) (followed c e (step c.world e))
stands-followed v c next e reply ok stands =
    subst (λ (r : Result (World × Reply) Fault). StandsFor (watched_after v c.world e next) (followed c e r)) (sym ok) (stands-next v c next e reply ok stands)

-- before the first event no tap has waited
pub stands-new : (w : World) → StandsFor (record { waited = None; broken = None }) (record { world = w; waited = []; broken = None })
stands-new w = record {
  broken = refl;
  before = tt;
  decides = λ none one from. refl;
}
