-- Stretches without a token and without noise, along the events.
use Rattle.std.proofs.Common.{◌≡◌, ◌∙◌, ap, sym, subst, refl, arith, ℕ, ◌+◌, ◌<◌, ◌≤◌, ◌==◌, ◌||◌, ◌&&◌, ⊎_elim, nat_lt, nat_le, not, max, min, List, [], ◌∷◌, ◌++◌, length, map, Bool, true, false, Option, Some, None, Ok}
use Rattle.std.specs.Prelude.{slice_get, slice_set, take, drop, is_some, is_none, find}
use Rattle.std.specs.List.{list_any}
use Rattle.std.proofs.lemmas.Bool.{ltb-true, ltb-false, lt-ltb, le-ltb, eqb-false, cases_eq, or_parts}
use Rattle.std.proofs.lemmas.List.{take-append-drop}
use Rattle.pb_cycles.specs.RequestFields.{RequestFields}
use Rattle.law_turn.specs.Phases.{Phase, Offline, PassiveIdle, Listening, Idle, Claim, Use, AwaitData, AwaitStatus, Pass, Checking, is_offline}
use Rattle.law_turn.specs.Stations.{list_for, pushed}
use Rattle.law_turn.specs.Turns.{turn_of}
use Rattle.law_turn.proofs.Moments.{turn_of-offline}
use Rattle.law_model.specs.Trace as trace
use Rattle.law_model.specs.Trace.{Hit, Record, Entry, Sent, entry_begin, entry_end, goes_before, with_entry, cut_end, cut_at, is_noise_at, noisy_until, begins_from, unheard_at}
use Rattle.law_model.specs.Medium.{Tap, reaches, reaches_taps, ends_between, entry_at, heard_by}
use Rattle.law_model.specs.World as world
use Rattle.law_model.specs.World.{World, Event, Turn, Damage, Start, Stop, Queue, Unheard, Reply, Fault, NoSuchTap, Running, NotRunning, NothingInAir, ZeroTime, QueueFull, TraceFull, queue_limit, is_in_air_by, later_end, entry_next_end, next_end_of}
use Rattle.law_model.specs.Step.{step, sending, with_said, step_turn, told, pass_faults, is_past, step_pass, with_hit, change_first, has_place, step_damage, started_tap, step_start, halted, step_stop, step_queue, with_noise, is_noisy, step_noise, step_unheard}
use Rattle.law_model.specs.Laws.{AllBegun, AllOver, IsSound}
use Rattle.law_model.proofs.Cases.{by_test}
use Rattle.law_model.proofs.Sensed.{is_past-earlier, later_end-bound}
use Rattle.law_model.proofs.Worlds.{unless-Ok}
use Rattle.law_token.specs.Promises.{IsMasterAt}
use Rattle.law_token.proofs.bus.Lists.{get_set_at, get_set_other}
use Rattle.law_live.specs.NeverDead.{is_noise_within, is_token_within}
use Rattle.pb_medium.specs.Airs.{IsCut}
use Rattle.pb_world.specs.Premises.{time_in}
use Rattle.pb_world.specs.Liveness.{IsStretch, IsCalm, calm_after, ends_stretch, ends_within}

-- ---- entries that pass a test

any-map : (test : Entry → Bool) (change : Entry → Entry) (es : List Entry) → ((e : Entry) → test (change e) ≡ test e) → list_any test (map change es) ≡ list_any test es
any-map test change [] same = refl
any-map test change (e ∷ es) same = ap (λ (b : Bool). b || list_any test (map change es)) (same e) ∙ ap (λ (b : Bool). test e || b) (any-map test change es same)

any-change_first : (test of : Entry → Bool) (change : Entry → Entry) (es : List Entry) → ((e : Entry) → of e ≡ true → test (change e) ≡ test e)
    → list_any test (change_first of change es) ≡ list_any test es
any-change_first test of change [] same = refl
any-change_first test of change (e ∷ es) same =
    by_test (λ (xs : List Entry). list_any test xs ≡ list_any test (e ∷ es)) (of e) (change e ∷ es) (e ∷ change_first of change es)
    (λ passes. ap (λ (b : Bool). b || list_any test es) (same e passes))
    (λ _. ap (λ (b : Bool). test e || b) (any-change_first test of change es same))

or-swap : (a b c : Bool) → (a || (b || c)) ≡ (b || (a || c))
or-swap true true c = refl
or-swap true false c = refl
or-swap false b c = refl

any-with_entry : (test : Entry → Bool) (e : Entry) (es : List Entry) → list_any test (with_entry e es) ≡ (test e || list_any test es)
any-with_entry test e [] = refl
any-with_entry test e (x ∷ xs) =
    by_test (λ (es : List Entry). list_any test es ≡ (test e || list_any test (x ∷ xs))) (goes_before e x) (e ∷ x ∷ xs) (x ∷ with_entry e xs)
    (λ _. refl) (λ _. ap (λ (b : Bool). test x || b) (any-with_entry test e xs) ∙ or-swap (test x) (test e) (list_any test xs))

-- ---- an event in which no time passes: the entries

-- what was on the bus before the clock still was, and what was on it at the clock still is
abbrev KeepsTrace : ℕ → List Entry → List Entry → Type 0
KeepsTrace now es xs = (m : ℕ) → m < now
    → (list_any (ends_within m now) xs ≡ list_any (ends_within m now) es)
    × (list_any (ends_within m (now + 1)) xs ≡ false → list_any (ends_within m (now + 1)) es ≡ false)

keeps-same : (now : ℕ) (es xs : List Entry) → ((m u : ℕ) → m < now → list_any (ends_within m u) xs ≡ list_any (ends_within m u) es) → KeepsTrace now es xs
keeps-same now es xs same m before = (same m now before, λ none. sym (same m (now + 1) before) ∙ none)

and-not : (a b c : Bool) → b ≡ false → (a && (b && c)) ≡ false
and-not true b c is = ap (λ (x : Bool). x && c) is
and-not false b c is = refl

keeps-new : (now : ℕ) (e : Entry) (es : List Entry) → now ≤ entry_begin e → KeepsTrace now es (with_entry e es)
keeps-new now e es begins m before =
    let late = and-not (ends_stretch e) (nat_lt (entry_begin e) now) (nat_lt m (entry_end e)) (le-ltb (entry_begin e) now begins) in (
      any-with_entry (ends_within m now) e es ∙ ap (λ (b : Bool). b || list_any (ends_within m now) es) late,
      λ none. (or_parts (ends_within m (now + 1) e) (list_any (ends_within m (now + 1)) es) (sym (any-with_entry (ends_within m (now + 1)) e es) ∙ none)).1,
    )

lasts-as : (m now a b : ℕ) → m < now → min a now ≡ min b now → nat_lt m a ≡ nat_lt m b
lasts-as m now a b before same = by (nat_lt m b) refl
  where
    by : (t : Bool) → nat_lt m b ≡ t → nat_lt m a ≡ t
    by true is = lt-ltb m a (omega (arith, before, same, ltb-true m b is))
    by false is = le-ltb m a (omega (arith, before, same, ltb-false m b is))

within-hit : (m u : ℕ) (hit : Hit) (e : Entry) → ends_within m u (with_hit hit e) ≡ ends_within m u e
within-hit m u hit (trace.Noise span) = refl
within-hit m u hit (Sent r) = refl

within-unheard : (m u at : ℕ) (e : Entry) → ends_within m u (unheard_at at e) ≡ ends_within m u e
within-unheard m u at (trace.Noise span) = refl
within-unheard m u at (Sent r) = refl

-- a cut leaves the character that is on its way
within-cut : (m u now speaker : ℕ) (e : Entry) → m < now → ends_within m u (cut_at now speaker e) ≡ ends_within m u e
within-cut m u now speaker (trace.Noise span) before = refl
within-cut m u now speaker (Sent r) before =
    by_test (λ (x : Record). ends_within m u (Sent x) ≡ ends_within m u (Sent r)) (r.tap == speaker) (record r { end = cut_end now r }) r
    (λ _. ap (λ (b : Bool). ends_stretch (Sent r) && (nat_lt r.begin u && b)) (lasts-as m now (cut_end now r) r.end before (omega arith)))
    (λ _. refl)

within-noisy : (m u now end : ℕ) (e : Entry) → m < now → is_noise_at now e ≡ true → ends_within m u (noisy_until end e) ≡ ends_within m u e
within-noisy m u now end (trace.Noise span) before noisy =
    ap (λ (b : Bool). nat_lt span.begin u && b) (lasts-as m now (max span.end end) span.end before (omega (arith, ltb-true now span.end noisy)))
within-noisy m u now end (Sent r) before noisy = refl

within-entry_at : (m u delay : ℕ) (taps : List Tap) (all : List Entry) (from to : ℕ) (e : Entry) → ends_within m u (entry_at delay taps all from to e) ≡ ends_within m u e
within-entry_at m u delay taps all from to (trace.Noise span) = refl
within-entry_at m u delay taps all from to (Sent r) =
    by_test (λ (x : Entry). ends_within m u x ≡ ends_within m u (Sent r)) (ends_between from to (reaches delay r)) (Sent (record r { heard = heard_by delay all r 0 taps r.heard })) (Sent r)
    (λ _. refl) (λ _. refl)

keeps-said : {X : Type 0} (tap now : ℕ) (o : Option (List ℕ)) (taps : List X) (es : List Entry) → KeepsTrace now es (with_said tap o now taps es)
keeps-said tap now None taps es = keeps-same now es es (λ m u before. refl)
keeps-said tap now (Some octets) taps es = keeps-new now (Sent (sending tap octets now taps)) es (omega arith)

keeps-noise : (now end : ℕ) (noisy : Bool) (es : List Entry) → KeepsTrace now es (with_noise now end noisy es)
keeps-noise now end true es = keeps-same now es (change_first (is_noise_at now) (noisy_until end) es)
    (λ m u before. any-change_first (ends_within m u) (is_noise_at now) (noisy_until end) es (λ e passes. within-noisy m u now end e before passes))
keeps-noise now end false es = keeps-new now (trace.Noise (record { begin = now; end = end })) es (omega arith)

-- ---- an event in which no time passes: the taps

-- a running master that is not offline
abbrev IsOn : Tap → Type 0
IsOn t = (t.running ≡ true) × (t.spec.master ≡ true) × (is_offline t.station.phase ≡ true → ⊥)

-- one that has run since a moment before the clock was one, and had run since then
abbrev WasOn : ℕ → Tap → Tap → Type 0
WasOn now t u = IsOn u → (m : ℕ) → u.since ≤ m → m < now → IsOn t × (t.since ≤ m)

abbrev KeepsTaps : ℕ → List Tap → List Tap → Type 0
KeepsTaps now ts us = (i : ℕ) (u : Tap) → slice_get us i ≡ Some u → (t : Tap) × (slice_get ts i ≡ Some t) × WasOn now t u

taps-same : (now : ℕ) (ts : List Tap) → KeepsTaps now ts ts
taps-same now ts i u at = (u, at, λ on m since before. (on, since))

taps-set : (now : ℕ) (ts : List Tap) (k : ℕ) (t y : Tap) → slice_get ts k ≡ Some t → WasOn now t y → KeepsTaps now ts (slice_set ts k y)
taps-set now ts k t y here was i u at =
    ⊎_elim
    (λ (e : k ≡ i).
    let same = get_set_at ts k y u (subst (λ n. slice_get (slice_set ts k y) n ≡ Some u) (sym e) at) in
    (t, subst (λ n. slice_get ts n ≡ Some t) e here, subst (WasOn now t) (sym same) was))
    (λ (other : k ≡ i → ⊥). (u, sym (get_set_other ts k i y other) ∙ at, λ on m since before. (on, since)))
    (cases_eq k i)

is-offline : (ph : Phase) → is_offline ph ≡ true → ph ≡ Offline
is-offline Offline e = refl
is-offline PassiveIdle e = absurd (let wrong : false ≡ true = e in cc)
is-offline (Listening doubled) e = absurd (let wrong : false ≡ true = e in cc)
is-offline (Idle refused) e = absurd (let wrong : false ≡ true = e in cc)
is-offline (Claim sent ready) e = absurd (let wrong : false ≡ true = e in cc)
is-offline (Use asked ready) e = absurd (let wrong : false ≡ true = e in cc)
is-offline (AwaitData asked retry slot) e = absurd (let wrong : false ≡ true = e in cc)
is-offline (AwaitStatus of slot) e = absurd (let wrong : false ≡ true = e in cc)
is-offline (Pass tries ready) e = absurd (let wrong : false ≡ true = e in cc)
is-offline (Checking tries) e = absurd (let wrong : false ≡ true = e in cc)

-- who is offline stays so in its turn
was-turn : (w : World) (t : Tap) → WasOn w.now t (record t { station = (turn_of w.params t.station t.marks w.now).0; marks = [] })
was-turn w t on m since before = (
  (
    on.0,
    on.1,
    λ (off : is_offline t.station.phase ≡ true).
        let is = is-offline t.station.phase off in
        on.2 (ap (λ turn. is_offline turn.0.phase) (turn_of-offline w.params t.station t.marks w.now is) ∙ off),
  ),
  since,
)

was-started : (w : World) (k : ℕ) (t : Tap) → WasOn w.now t (started_tap w k t)
was-started w k t on m since before = absurd (omega (arith, since, before))

was-halted : (now : ℕ) (t : Tap) → WasOn now t (halted t)
was-halted now t on m since before = absurd (let wrong : false ≡ true = on.0 in cc)

was-pushed : (now : ℕ) (t : Tap) (r : RequestFields) → WasOn now t (record t { station = pushed t.station r })
was-pushed now t r on m since before = (on, since)

-- ---- an event in which no time passes

pub record Stays (w next : World) : Type 0 where
  pub now : next.now ≡ w.now
  pub trace : KeepsTrace w.now w.trace next.trace
  pub taps : KeepsTaps w.now w.taps next.taps

abbrev StaysBy : World → World × Reply → Type 0
StaysBy w x = Stays w x.0

stays-turn : (w next : World) (tap : ℕ) (reply : Reply) (o : Option Tap) → slice_get w.taps tap ≡ o → step_turn w tap o ≡ Ok (next, reply) → StaysBy w (next, reply)
stays-turn w next tap reply None at ok = absurd cc
stays-turn w next tap reply (Some t) at ok =
    let turn = turn_of w.params t.station t.marks w.now in
    let y : Tap = record t { station = turn.0; marks = [] } in
    let made : World × Reply = (record w { trace = with_said tap turn.1 w.now w.taps w.trace; taps = slice_set w.taps tap y }, record { now = w.now; spoke = turn.1 }) in
    let is = unless-Ok ((not t.running, NotRunning) ∷ (is_some turn.1 && nat_le w.limit (length w.trace), TraceFull) ∷ []) made (next, reply) ok in
    subst (StaysBy w) is.1 (record { now = refl; trace = keeps-said tap w.now turn.1 w.taps w.trace; taps = taps-set w.now w.taps tap t y at (was-turn w t) })

stays-damage : (w next : World) (tap speaker : ℕ) (place : Option ℕ) (reply : Reply) (at from : Option Tap) → step_damage w tap speaker place at from ≡ Ok (next, reply) → StaysBy w (next, reply)
stays-damage w next tap speaker place reply at from ok =
    let in_air = is_in_air_by w.params.ttd w.now speaker in
    let hit : Hit = record { tap = tap; place = place } in
    let made : World × Reply = (record w { trace = change_first in_air (with_hit hit) w.trace }, record { now = w.now; spoke = None }) in
    let is = unless-Ok ((is_none at || is_none from, NoSuchTap) ∷ (tap == speaker || not (has_place (find in_air w.trace) place), NothingInAir) ∷ []) made (next, reply) ok in
    subst (StaysBy w) is.1 (record {
      now = refl;
      trace = keeps-same w.now w.trace (change_first in_air (with_hit hit) w.trace) (λ m u before. any-change_first (ends_within m u) in_air (with_hit hit) w.trace (λ e _. within-hit m u hit e));
      taps = taps-same w.now w.taps;
    })

stays-start : (w next : World) (tap : ℕ) (reply : Reply) (o : Option Tap) → slice_get w.taps tap ≡ o → step_start w tap o ≡ Ok (next, reply) → StaysBy w (next, reply)
stays-start w next tap reply None at ok = absurd cc
stays-start w next tap reply (Some t) at ok =
    let y : Tap = started_tap w tap t in
    let made : World × Reply = (record w { taps = slice_set w.taps tap y }, record { now = w.now; spoke = None }) in
    let is = unless-Ok ((t.running || list_any (is_in_air_by w.params.ttd w.now tap) w.trace, Running) ∷ []) made (next, reply) ok in
    subst (StaysBy w) is.1 (record { now = refl; trace = keeps-same w.now w.trace w.trace (λ m u before. refl); taps = taps-set w.now w.taps tap t y at (was-started w tap t) })

stays-stop : (w next : World) (tap : ℕ) (reply : Reply) (o : Option Tap) → slice_get w.taps tap ≡ o → step_stop w tap o ≡ Ok (next, reply) → StaysBy w (next, reply)
stays-stop w next tap reply None at ok = absurd cc
stays-stop w next tap reply (Some t) at ok =
    let made : World × Reply = (record w { trace = map (cut_at w.now tap) w.trace; taps = slice_set w.taps tap (halted t) }, record { now = w.now; spoke = None }) in
    let is = unless-Ok ((not t.running, NotRunning) ∷ []) made (next, reply) ok in
    subst (StaysBy w) is.1 (record {
      now = refl;
      trace = keeps-same w.now w.trace (map (cut_at w.now tap) w.trace) (λ m u before. any-map (ends_within m u) (cut_at w.now tap) w.trace (λ e. within-cut m u w.now tap e before));
      taps = taps-set w.now w.taps tap t (halted t) at (was-halted w.now t);
    })

stays-queue : (w next : World) (tap : ℕ) (r : RequestFields) (reply : Reply) (o : Option Tap) → slice_get w.taps tap ≡ o → step_queue w tap r o ≡ Ok (next, reply) → StaysBy w (next, reply)
stays-queue w next tap r reply None at ok = absurd cc
stays-queue w next tap r reply (Some t) at ok =
    let y : Tap = record t { station = pushed t.station r } in
    let made : World × Reply = (record w { taps = slice_set w.taps tap y }, record { now = w.now; spoke = None }) in
    let is = unless-Ok ((not (t.running && t.spec.master), NotRunning) ∷ (nat_le queue_limit (length (list_for t.station.cycles.queue r)), QueueFull) ∷ []) made (next, reply) ok in
    subst (StaysBy w) is.1 (record { now = refl; trace = keeps-same w.now w.trace w.trace (λ m u before. refl); taps = taps-set w.now w.taps tap t y at (was-pushed w.now t r) })

stays-noise : (w next : World) (bits : ℕ) (noisy : Bool) (reply : Reply) → step_noise w bits noisy ≡ Ok (next, reply) → StaysBy w (next, reply)
stays-noise w next bits noisy reply ok =
    let made : World × Reply = (record w { trace = with_noise w.now (w.now + bits) noisy w.trace }, record { now = w.now; spoke = None }) in
    let is = unless-Ok ((bits == 0, ZeroTime) ∷ (not noisy && nat_le w.limit (length w.trace), TraceFull) ∷ []) made (next, reply) ok in
    subst (StaysBy w) is.1 (record { now = refl; trace = keeps-noise w.now (w.now + bits) noisy w.trace; taps = taps-same w.now w.taps })

stays-unheard : (w next : World) (tap speaker : ℕ) (reply : Reply) (at from : Option Tap) → step_unheard w tap speaker at from ≡ Ok (next, reply) → StaysBy w (next, reply)
stays-unheard w next tap speaker reply at from ok =
    let begins = begins_from w.now speaker in
    let made : World × Reply = (record w { trace = change_first begins (unheard_at tap) w.trace }, record { now = w.now; spoke = None }) in
    let is = unless-Ok ((is_none at || is_none from, NoSuchTap) ∷ (tap == speaker || not (list_any begins w.trace), NothingInAir) ∷ []) made (next, reply) ok in
    subst (StaysBy w) is.1 (record {
      now = refl;
      trace = keeps-same w.now w.trace (change_first begins (unheard_at tap) w.trace) (λ m u before. any-change_first (ends_within m u) begins (unheard_at tap) w.trace (λ e _. within-unheard m u tap e));
      taps = taps-same w.now w.taps;
    })

pub stays : (w next : World) (e : Event) (reply : Reply) → time_in e ≡ None → step w e ≡ Ok (next, reply) → Stays w next
stays w next (Turn tap) reply none ok = stays-turn w next tap reply (slice_get w.taps tap) refl ok
stays w next (world.Pass bits) reply none ok = absurd cc
stays w next (Damage tap speaker place) reply none ok = stays-damage w next tap speaker place reply (slice_get w.taps tap) (slice_get w.taps speaker) ok
stays w next (Start tap) reply none ok = stays-start w next tap reply (slice_get w.taps tap) refl ok
stays w next (Stop tap) reply none ok = stays-stop w next tap reply (slice_get w.taps tap) refl ok
stays w next (Queue tap r) reply none ok = stays-queue w next tap r reply (slice_get w.taps tap) refl ok
stays w next (world.Noise bits) reply none ok = stays-noise w next bits (is_noisy w) reply ok
stays w next (Unheard tap speaker) reply none ok = stays-unheard w next tap speaker reply (slice_get w.taps tap) (slice_get w.taps speaker) ok

-- ---- tokens and noise together

both-none : (from to : ℕ) (es : List Entry) → list_any (is_noise_within from to) es ≡ false → list_any (is_token_within from to) es ≡ false → list_any (ends_within from to) es ≡ false
both-none from to [] noise token = refl
both-none from to (e ∷ es) noise token =
    let n = or_parts (is_noise_within from to e) (list_any (is_noise_within from to) es) noise in
    let t = or_parts (is_token_within from to e) (list_any (is_token_within from to) es) token in
    ap (λ (b : Bool). b || list_any (ends_within from to) es) (one e n.0 t.0) ∙ both-none from to es n.1 t.1
  where
    one : (e : Entry) → is_noise_within from to e ≡ false → is_token_within from to e ≡ false → ends_within from to e ≡ false
    one (trace.Noise span) n t = n
    one (Sent r) n t = t

none-both : (from to : ℕ) (es : List Entry) → list_any (ends_within from to) es ≡ false → (list_any (is_noise_within from to) es ≡ false) × (list_any (is_token_within from to) es ≡ false)
none-both from to [] none = (refl, refl)
none-both from to (e ∷ es) none =
    let here = or_parts (ends_within from to e) (list_any (ends_within from to) es) none in
    let more = none-both from to es here.1 in
    let one = both e here.0 in
    (ap (λ (b : Bool). b || list_any (is_noise_within from to) es) one.0 ∙ more.0, ap (λ (b : Bool). b || list_any (is_token_within from to) es) one.1 ∙ more.1)
  where
    both : (e : Entry) → ends_within from to e ≡ false → (is_noise_within from to e ≡ false) × (is_token_within from to e ≡ false)
    both (trace.Noise span) none = (none, refl)
    both (Sent r) none = (refl, none)

-- a stretch after such an event was one before it
pub stretch-back : (w next : World) (tap begin : ℕ) → Stays w next → IsStretch next tap begin → IsStretch w tap begin
stretch-back w next tap begin stays is =
    let before : begin < w.now = omega (arith, is.lasts, stays.now) in
    let at = ap (λ (n : ℕ). list_any (ends_within begin (n + 1)) next.trace) (sym stays.now) in
    let none = none-both begin (w.now + 1) w.trace ((stays.trace begin before).1 (at ∙ both-none begin (next.now + 1) next.trace is.no_noise is.no_token)) in
    let was = stays.taps tap is.t is.master.here in
    let on = was.2 (is.master.running, is.master.master, is.master.on) begin is.ran before in
    record {
      t = was.0;
      master = record { here = was.1; running = on.0.0; master = on.0.1; on = on.0.2 };
      ran = on.1;
      lasts = before;
      no_noise = none.0;
      no_token = none.1;
    }

-- and the bus is calm since the same moment
pub calm-stays : (w next : World) (calm : ℕ) → Stays w next → IsCalm w calm → IsCalm next calm
calm-stays w next calm stays is = record {
  past = omega (arith, is.past, stays.now);
  since = λ m before.
      let early : m < w.now = omega (arith, before, stays.now) in
      ap (λ (n : ℕ). list_any (ends_within m n) next.trace) stays.now ∙ (stays.trace m early).0 ∙ is.since m early;
}

-- ---- time

-- what has begun, and does not end before a moment if it lasts after the clock
abbrev AllSolid : (now to : ℕ) → List Entry → Type 0
AllSolid now to [] = Unit {0}
AllSolid now to (e ∷ es) = (entry_begin e ≤ now) × (entry_begin e < entry_end e) × (now < entry_end e → to ≤ entry_end e) × AllSolid now to es

solid-end : (delay now to : ℕ) (e : Entry) → is_past (entry_next_end delay now e) to ≡ false → now < entry_end e → to ≤ entry_end e
solid-end delay now to (trace.Noise span) past lasts = later_end-bound now span.end to past lasts
solid-end delay now to (Sent r) past lasts = later_end-bound now r.end to (is_past-earlier (later_end now r.end) (later_end now (reaches delay r).end) to past).0 lasts

all-solid : (delay now to : ℕ) (es : List Entry) → AllBegun now es → is_past (next_end_of delay now es) to ≡ false → AllSolid now to es
all-solid delay now to [] begun past = tt
all-solid delay now to (e ∷ es) begun past =
    let ends = is_past-earlier (entry_next_end delay now e) (next_end_of delay now es) to past in
    (begun.0, begun.1, solid-end delay now to e ends.0, all-solid delay now to es begun.2 ends.1)

one-within : (s : Bool) (from to begin end : ℕ) → begin < to → (s && (nat_lt begin to && nat_lt from end)) ≡ (s && nat_lt from end)
one-within s from to begin end early = ap (λ (b : Bool). s && (b && nat_lt from end)) (lt-ltb begin to early)

and-true : (a b : Bool) → (a && b) ≡ true → (a ≡ true) × (b ≡ true)
and-true true b is = (refl, is)
and-true false b is = absurd (let wrong : false ≡ true = is in cc)

-- what was on the bus in the pass was on it up to its end
heard-whole : (now to m : ℕ) (es : List Entry) → now < to → m < to → AllSolid now to es → list_any (ends_within now to) es ≡ true → list_any (ends_within m to) es ≡ true
heard-whole now to m [] goes early solid some = some
heard-whole now to m (e ∷ es) goes early (begun, long, whole, more) some = by (ends_within now to e) refl some (heard-whole now to m es goes early more)
  where
    rest : (a b : Bool) → b ≡ true → (a || b) ≡ true
    rest true b is = refl
    rest false b is = is

    by : (b : Bool) → ends_within now to e ≡ b → (b || list_any (ends_within now to) es) ≡ true
        → (list_any (ends_within now to) es ≡ true → list_any (ends_within m to) es ≡ true)
        → (ends_within m to e || list_any (ends_within m to) es) ≡ true
    by true here some others =
        let parts = and-true (ends_stretch e) (nat_lt now (entry_end e)) (sym (one-within (ends_stretch e) now to (entry_begin e) (entry_end e) (omega (arith, begun, goes))) ∙ here) in
        let lasts = ltb-true now (entry_end e) parts.1 in
        let is : ends_within m to e ≡ true =
        one-within (ends_stretch e) m to (entry_begin e) (entry_end e) (omega (arith, begun, goes)) ∙ ap (λ (b : Bool). b && nat_lt m (entry_end e)) parts.0
        ∙ lt-ltb m (entry_end e) (omega (arith, early, whole lasts)) in
        ap (λ (b : Bool). b || list_any (ends_within m to) es) is
    by false here some others = rest (ends_within m to e) (list_any (ends_within m to) es) (others some)

-- where nothing was, all is over by the clock before
over-before : (now to m : ℕ) (e : Entry) → now < to → entry_begin e ≤ now → entry_begin e < entry_end e → ends_within now to e ≡ false → ends_within m to e ≡ (nat_lt m now && ends_within m now e)
over-before now to m e goes begun long none = by (ends_stretch e) refl
  where
    early : entry_begin e < to
    early = omega (arith, begun, goes)

    nothing : (b : Bool) → (b && false) ≡ false
    nothing true = refl
    nothing false = refl

    by : (s : Bool) → ends_stretch e ≡ s → (s && (nat_lt (entry_begin e) to && nat_lt m (entry_end e))) ≡ (nat_lt m now && (s && (nat_lt (entry_begin e) now && nat_lt m (entry_end e))))
    by false is = sym (nothing (nat_lt m now))
    by true is =
        let over = ltb-false now (entry_end e) (sym (one-within true now to (entry_begin e) (entry_end e) early) ∙ ap (λ (b : Bool). b && (nat_lt (entry_begin e) to && nat_lt now (entry_end e))) (sym is) ∙ none) in
        one-within true m to (entry_begin e) (entry_end e) early ∙ after over (nat_lt m now) refl
      where
        after : entry_end e ≤ now → (b : Bool) → nat_lt m now ≡ b → nat_lt m (entry_end e) ≡ (b && (nat_lt (entry_begin e) now && nat_lt m (entry_end e)))
        after over true before = sym (ap (λ (b : Bool). b && nat_lt m (entry_end e)) (lt-ltb (entry_begin e) now (omega (arith, over, long))))
        after over false late = le-ltb m (entry_end e) (omega (arith, over, ltb-false m now late))

and-or : (a b c : Bool) → ((a && b) || (a && c)) ≡ (a && (b || c))
and-or true b c = refl
and-or false b c = refl

none-heard : (now to m : ℕ) (es : List Entry) → now < to → AllSolid now to es → list_any (ends_within now to) es ≡ false
    → list_any (ends_within m to) es ≡ (nat_lt m now && list_any (ends_within m now) es)
none-heard now to m [] goes solid none = by (nat_lt m now)
  where
    by : (b : Bool) → false ≡ (b && false)
    by true = refl
    by false = refl
none-heard now to m (e ∷ es) goes (begun, long, whole, more) none =
    let here = or_parts (ends_within now to e) (list_any (ends_within now to) es) none in
    ap (λ (b : Bool). b || list_any (ends_within m to) es) (over-before now to m e goes begun long here.0)
    ∙ ap (λ (b : Bool). (nat_lt m now && ends_within m now e) || b) (none-heard now to m es goes more here.1)
    ∙ and-or (nat_lt m now) (ends_within m now e) (list_any (ends_within m now) es)

calm-later : (now to calm m : ℕ) (es : List Entry) (heard : Bool) → now < to → m < to → calm ≤ now → AllSolid now to es
    → ((m : ℕ) → m < now → list_any (ends_within m now) es ≡ nat_lt m calm) → heard ≡ list_any (ends_within now to) es
    → list_any (ends_within m to) es ≡ nat_lt m (calm_after heard to calm)
calm-later now to calm m es true goes early past solid since is = heard-whole now to m es goes early solid (sym is) ∙ sym (lt-ltb m to early)
calm-later now to calm m es false goes early past solid since is = none-heard now to m es goes solid (sym is) ∙ by (nat_lt m now) refl
  where
    by : (b : Bool) → nat_lt m now ≡ b → (b && list_any (ends_within m now) es) ≡ nat_lt m calm
    by true before = since m (ltb-true m now before)
    by false late = sym (le-ltb m calm (omega (arith, past, ltb-false m now late)))

-- what a world shows of its stretches after a pass: since when the bus is calm, and that nothing begins at the clock
pub record Measures (w : World) (calm : ℕ) : Type 0 where
  pub calm_is : IsCalm w calm
  pub none_begins : (m : ℕ) → list_any (ends_within m (w.now + 1)) w.trace ≡ list_any (ends_within m w.now) w.trace

none-begins : (now to m : ℕ) (es : List Entry) → now < to → AllSolid now to es → list_any (ends_within m (to + 1)) es ≡ list_any (ends_within m to) es
none-begins now to m [] goes solid = refl
none-begins now to m (e ∷ es) goes (begun, long, whole, more) =
    let one = one-within (ends_stretch e) m (to + 1) (entry_begin e) (entry_end e) (omega (arith, begun, goes))
    ∙ sym (one-within (ends_stretch e) m to (entry_begin e) (entry_end e) (omega (arith, begun, goes))) in
    ap (λ (b : Bool). b || list_any (ends_within m (to + 1)) es) one ∙ ap (λ (b : Bool). ends_within m to e || b) (none-begins now to m es goes more)

pub measures : (w next : World) (bits : ℕ) (reply : Reply) (calm : ℕ) (heard : Bool) → IsSound w → step_pass w bits ≡ Ok (next, reply) → IsCalm w calm
    → heard ≡ list_any (ends_within w.now (w.now + bits)) w.trace → (next.now ≡ w.now + bits) × Measures next (calm_after heard next.now calm)
measures w next bits reply calm heard sound ok is hears =
    let to = w.now + bits in
    let taps = told w.params.ttd w.trace w.now to 0 w.taps in
    let entries = map (entry_at w.params.ttd w.taps w.trace w.now to) w.trace in
    let made : World × Reply = (record w { now = to; taps = taps; trace = entries }, record { now = to; spoke = None }) in
    let went = unless-Ok (pass_faults w bits taps) made (next, reply) ok in
    let some : bits ≡ 0 → ⊥ = eqb-false bits 0 went.0.0 in
    let goes : w.now < to = grind (arith, some) in
    let solid = all-solid w.params.ttd w.now to w.trace sound.begun went.0.1.0 in
    let same : (m u : ℕ) → list_any (ends_within m u) entries ≡ list_any (ends_within m u) w.trace =
    λ m u. any-map (ends_within m u) (entry_at w.params.ttd w.taps w.trace w.now to) w.trace (λ e. within-entry_at m u w.params.ttd w.taps w.trace w.now to e) in
    subst (λ (x : World × Reply). (x.0.now ≡ w.now + bits) × Measures x.0 (calm_after heard x.0.now calm)) went.1 (
      refl,
      record {
        calm_is = record {
          past = after heard to calm (omega (arith, is.past, goes));
          since = λ m early. same m to ∙ calm-later w.now to calm m w.trace heard goes early is.past solid is.since hears;
        };
        none_begins = λ m. same m (to + 1) ∙ none-begins w.now to m w.trace goes solid ∙ sym (same m to);
      },
    )
  where
    after : (b : Bool) (to calm : ℕ) → calm ≤ to → calm_after b to calm ≤ to
    after true to calm past = omega arith
    after false to calm past = past

-- ---- the stretch at the clock

pub stretch-since : (w : World) (tap begin calm : ℕ) → Measures w calm → IsStretch w tap begin → calm ≤ begin
stretch-since w tap begin calm measured is =
    ltb-false begin calm (sym (measured.calm_is.since begin is.lasts) ∙ sym (measured.none_begins begin) ∙ both-none begin (w.now + 1) w.trace is.no_noise is.no_token)

pub since-stretch : (w : World) (tap begin calm : ℕ) (t : Tap) → Measures w calm → IsMasterAt w tap t → t.since ≤ begin → calm ≤ begin → begin < w.now → IsStretch w tap begin
since-stretch w tap begin calm t measured master ran late lasts =
    let none = none-both begin (w.now + 1) w.trace (measured.none_begins begin ∙ measured.calm_is.since begin lasts ∙ le-ltb begin calm late) in
    record { t = t; master = master; ran = ran; lasts = lasts; no_noise = none.0; no_token = none.1 }

-- ---- what is recent

any-join : (test : Entry → Bool) (es xs : List Entry) → list_any test (es ++ xs) ≡ (list_any test es || list_any test xs)
any-join test [] xs = refl
any-join test (e ∷ es) xs = ap (λ (b : Bool). test e || b) (any-join test es xs) ∙ assoc (test e) (list_any test es) (list_any test xs)
  where
    assoc : (a b c : Bool) → (a || (b || c)) ≡ ((a || b) || c)
    assoc true b c = refl
    assoc false b c = refl

over-none : (delay m now to : ℕ) (es : List Entry) → AllOver delay m es → m ≤ now → list_any (ends_within now to) es ≡ false
over-none delay m now to [] over past = refl
over-none delay m now to (e ∷ es) over past =
    ap (λ (b : Bool). (ends_stretch e && (nat_lt (entry_begin e) to && b)) || list_any (ends_within now to) es) (le-ltb now (entry_end e) (omega (arith, sooner e, over.1, past)))
    ∙ ap (λ (b : Bool). b || list_any (ends_within now to) es) (none (ends_stretch e) (nat_lt (entry_begin e) to))
    ∙ over-none delay m now to es over.2 past
  where
    none : (a b : Bool) → (a && (b && false)) ≡ false
    none true true = refl
    none true false = refl
    none false b = refl

    sooner : (e : Entry) → entry_end e ≤ (reaches_taps delay e).end
    sooner (trace.Noise span) = omega arith
    sooner (Sent r) = omega arith

-- only what is recent can be on the bus from the clock on
pub ends-recent : (delay now over to : ℕ) (es : List Entry) → IsCut delay now over es → list_any (ends_within now to) (drop over es) ≡ list_any (ends_within now to) es
ends-recent delay now over to es (m, at, some, old, recent) =
    sym (
    ap (λ xs. list_any (ends_within now to) xs) (sym (take-append-drop over es)) ∙ any-join (ends_within now to) (take over es) (drop over es)
    ∙ ap (λ (b : Bool). b || list_any (ends_within now to) (drop over es)) (over-none delay m now to (take over es) old at)
    )
