-- What of speakers with equal addresses outlasts each event but a pass.
use Rattle.std.proofs.Common.{◌≡◌, ℕ, zero, suc, ◌+◌, ◌<◌, ◌≤◌, ⊎_elim, Bool, true, false, if◌then◌else◌, ◌==◌, List, [], ◌∷◌, refl, sym, ap, ◌∙◌, subst, arith, Option, Some, None}
use Rattle.std.specs.Prelude.{slice_get, slice_set, nat_lt, nat_le, max}
use Rattle.std.proofs.lemmas.Bool.{ltb-true, cases_eq}
use Rattle.std.proofs.lemmas.Option.{same_Some}
use Rattle.pb_timers.specs.Timers.{Params, tto}
use Rattle.pb_ring.specs.Las.{listening}
use Rattle.pb_cycles.specs.RequestFields.{RequestFields}
use Rattle.law_turn.specs.Spans.{Span}
use Rattle.law_turn.specs.Phases.{Phase, Offline, PassiveIdle, Listening, Idle, Claim, Use, AwaitData, AwaitStatus, Pass, Checking}
use Rattle.law_turn.specs.Stations.{Station, Reply, speaks_at, pushed, queued}
use Rattle.law_turn.specs.Hearing.{claiming, after_timer}
use Rattle.law_turn.specs.Turns.{turn_of, speech, phase_says, joining, replying}
use Rattle.law_model.specs.Trace.{Record, Own, Pending, Entry, Sent, Noise, cut_end, cut_at, heard_at_first, is_noise_at, noisy_until}
use Rattle.law_model.specs.Medium.{Tap, TapSpec, is_unheard}
use Rattle.law_model.specs.World.{World}
use Rattle.law_model.specs.Step.{sending, started_tap, halted, with_noise, with_said}
use Rattle.law_model.proofs.Cases.{by_test}
use Rattle.law_runs.specs.Legality.{is_whole}
use Rattle.law_runs.specs.Premises.{Waited, has_namesakes}
use Rattle.law_token.specs.Lists.{Each, In}
use Rattle.law_token.specs.Places.{LeavesTime, heard_span, IsOver, Place}
use Rattle.law_token.specs.Views.{Knows, IsOn, TapHolds, view, place}
use Rattle.law_token.specs.Entries.{EntryHolds, SpeakerHolds, SpeaksOk, IsFreshIn, IsFresh}
use Rattle.law_token.proofs.bus.Lists.{each_inside, each_in, each_both, each_with, each_changed, get_set_at, get_set_other}
use Rattle.law_token.proofs.pass.Taps.{knows_on}
use Rattle.law_token.proofs.air.Waiting.{marks_queue}
use Rattle.law_token.proofs.pass.Namesakes.{heard_is, other_reply, no_join}
use Rattle.law_token.proofs.bus.Claims.{one_address}

-- ---- noise and damage

pub speaks_noise : (p : Params) (now : ℕ) (taps : List Tap) (end : ℕ) (noisy : Bool) (trace : List Entry) → Each (SpeaksOk p now taps) trace → Each (SpeaksOk p now taps) (with_noise now end noisy trace)
speaks_noise p now taps end true trace all = each_changed (SpeaksOk p now taps) (is_noise_at now) (noisy_until end) trace longer all
  where
    longer : (e : Entry) → is_noise_at now e ≡ true → SpeaksOk p now taps e → SpeaksOk p now taps (noisy_until end e)
    longer (Noise span) is o = tt
    longer (Sent r) is o = o
speaks_noise p now taps end false trace all = each_with (SpeaksOk p now taps) (Noise (record { begin = now; end = end })) trace tt all

-- ---- a tap that becomes another of the same address

record Spoke (taps : List Tap) (j : ℕ) (u : Tap) : Type 0 where
  v : Tap
  here : slice_get taps j ≡ Some v
  address : v.spec.address ≡ u.spec.address

spoke : (taps : List Tap) (i : ℕ) (t y : Tap) → slice_get taps i ≡ Some t → y.spec ≡ t.spec → (j : ℕ) (u : Tap) → slice_get (slice_set taps i y) j ≡ Some u → Spoke taps j u
spoke taps i t y at same j u h =
    ⊎_elim
    (λ (e : i ≡ j). let z = get_set_at taps i y u (subst (λ n. slice_get (slice_set taps i y) n ≡ Some u) (sym e) h) in
    record { v = t; here = subst (λ n. slice_get taps n ≡ Some t) e at; address = ap (λ (s : TapSpec). s.address) (sym same) ∙ ap (λ (q : Tap). q.spec.address) (sym z) })
    (λ (ne : i ≡ j → ⊥). record { v = u; here = sym (get_set_other taps i j y ne) ∙ h; address = refl })
    (cases_eq i j)

-- the namesakes of a speaker are fresh
abbrev FreshBeside : Params → List Tap → ℕ → Type 0
FreshBeside p taps j = (k : ℕ) (v u : Tap) → slice_get taps k ≡ Some v → v.running ≡ true → slice_get taps j ≡ Some u → (j ≡ k → ⊥) → v.spec.address ≡ u.spec.address → IsFresh (view p v)

beside_set : (p : Params) (taps : List Tap) (i : ℕ) (t y : Tap) (j : ℕ) → slice_get taps i ≡ Some t → y.spec ≡ t.spec
    → ((u : Tap) → slice_get taps j ≡ Some u → y.running ≡ true → (j ≡ i → ⊥) → t.spec.address ≡ u.spec.address → IsFresh (view p y)) → FreshBeside p taps j → FreshBeside p (slice_set taps i y) j
beside_set p taps i t y j at same mine others k v u hv run hu ne e =
    let s = spoke taps i t y at same j u hu in
    ⊎_elim
    (λ (is : i ≡ k).
    let z = get_set_at taps i y v (subst (λ n. slice_get (slice_set taps i y) n ≡ Some v) (sym is) hv) in
    subst (λ (q : Tap). IsFresh (view p q)) (sym z)
    (mine s.v s.here (sym (ap (λ (q : Tap). q.running) z) ∙ run) (λ w. ne (w ∙ is)) (ap (λ (q : TapSpec). q.address) (sym same) ∙ sym (ap (λ (q : Tap). q.spec.address) z) ∙ e ∙ sym s.address)))
    (λ (other : i ≡ k → ⊥). others k v s.v (sym (get_set_other taps i k y other) ∙ hv) run s.here ne (e ∙ sym s.address))
    (cases_eq i k)

-- ---- Start

started_fresh : (w : World) (k : ℕ) (t : Tap) → IsFresh (view w.params (started_tap w k t))
started_fresh w k t = by_test (λ ph. IsFreshIn ph listening None) t.spec.master (Listening false) PassiveIdle (λ _. (refl, tt)) (λ _. tt)

pub speaks_start : (w : World) (i : ℕ) (t : Tap) (e : Entry) → slice_get w.taps i ≡ Some t → SpeaksOk w.params w.now w.taps e → SpeaksOk w.params w.now (slice_set w.taps i (started_tap w i t)) e
speaks_start w i t (Noise span) at o = tt
speaks_start w i t (Sent x) at o =
    record { own = o.own; fresh = λ init air. beside_set w.params w.taps i t (started_tap w i t) x.tap at refl (λ u hu run ne e. started_fresh w i t) (o.fresh init air) }

-- ---- Stop

pub speaks_stop : (p : Params) (now : ℕ) (taps : List Tap) (i : ℕ) (t : Tap) (e : Entry) → slice_get taps i ≡ Some t → SpeaksOk p now taps e → SpeaksOk p now (slice_set taps i (halted t)) (cut_at now i e)
speaks_stop p now taps i t (Noise span) at o = tt
speaks_stop p now taps i t (Sent x) at o =
    by_test (λ z. SpeakerHolds p now (slice_set taps i (halted t)) z) (x.tap == i) (record x { end = cut_end now x }) x
    (λ _. record { own = o.own; fresh = λ init air. beside_set p taps i t (halted t) x.tap at refl halts (o.fresh init (omega (arith, air))) })
    (λ _. record { own = o.own; fresh = λ init air. beside_set p taps i t (halted t) x.tap at refl halts (o.fresh init air) })
  where
    halts : (u : Tap) → slice_get taps x.tap ≡ Some u → false ≡ true → (x.tap ≡ i → ⊥) → t.spec.address ≡ u.spec.address → IsFresh (view p (halted t))
    halts u hu run ne e = tt

-- whatever else ends
pub speaks_halt : (p : Params) (now : ℕ) (taps : List Tap) (i : ℕ) (t : Tap) (e : Entry) → slice_get taps i ≡ Some t → SpeaksOk p now taps e → SpeaksOk p now (slice_set taps i (halted t)) e
speaks_halt p now taps i t (Noise span) at o = tt
speaks_halt p now taps i t (Sent x) at o =
    record { own = o.own; fresh = λ init air. beside_set p taps i t (halted t) x.tap at refl (λ u hu run ne e. tt) (o.fresh init air) }

-- ---- Queue

-- the view of a tap is as fresh as it was
fresh_queue : (p : Params) (t : Tap) (r : RequestFields) → IsFresh (view p t) → IsFresh (view p (record t { station = pushed t.station r }))
fresh_queue p t r f = subst IsFresh (sym (marks_queue (queued t.station.cycles.queue r) p t.station t.marks)) f

pub speaks_queue : (p : Params) (now : ℕ) (taps : List Tap) (i : ℕ) (t : Tap) (r : RequestFields) (e : Entry) → slice_get taps i ≡ Some t → SpeaksOk p now taps e → SpeaksOk p now (slice_set taps i (record t { station = pushed t.station r })) e
speaks_queue p now taps i t r (Noise span) at o = tt
speaks_queue p now taps i t r (Sent x) at o = record {
  own = o.own;
  fresh = λ init air. beside_set p taps i t (record t { station = pushed t.station r }) x.tap at refl (λ u hu run ne e. fresh_queue p t r (o.fresh init air i t u at run hu ne e)) (o.fresh init air);
}

-- ---- Turn

-- a fresh station stays fresh once it has said its reply
replied_fresh : (s : Station) (doubled : Bool) (now : ℕ) (r : Reply) → s.phase ≡ Listening doubled → r.joins ≡ false → IsFreshIn (Listening doubled) s.las s.reply → IsFresh (if r.joins then joining (replying s now r) else replying s now r)
replied_fresh s doubled now r e stays f =
    subst (λ b. IsFresh (if b then joining (replying s now r) else replying s now r)) (sym stays) (subst (λ ph. IsFreshIn ph s.las None) (sym e) (other_reply doubled s.las s.reply None tt f))

-- one whose time-out has not come stays fresh in a turn
turns_fresh : (p : Params) (v : Station) (ph : Phase) (busy : Bool) (reply : Option Reply) (now : ℕ) → IsFreshIn ph v.las reply → (IsOn ph → busy ≡ false → now < v.quiet + tto p v.address)
    → IsFresh (speech p (after_timer p (now + 1) (record v { phase = ph; busy = busy; reply = reply })) (speaks_at (after_timer p (now + 1) (record v { phase = ph; busy = busy; reply = reply }))) now).0
turns_fresh p v Offline true reply now f timer = tt
turns_fresh p v Offline false reply now f timer = tt
turns_fresh p v PassiveIdle true None now f timer = tt
turns_fresh p v PassiveIdle false None now f timer = tt
turns_fresh p v PassiveIdle true (Some r) now f timer =
    let s = record v { phase = PassiveIdle; busy = true; reply = Some r } in
    by_test (λ (z : Station × Option (List ℕ)). IsFresh z.0) (nat_le r.ready now) (phase_says p s PassiveIdle now) (s, None) (λ _. tt) (λ _. tt)
turns_fresh p v PassiveIdle false (Some r) now f timer =
    let s = record v { phase = PassiveIdle; busy = false; reply = Some r } in
    by_test (λ (z : Station × Option (List ℕ)). IsFresh z.0) (nat_le r.ready now) (phase_says p s PassiveIdle now) (s, None) (λ _. tt) (λ _. tt)
turns_fresh p v (Listening doubled) true None now f timer = f
turns_fresh p v (Listening doubled) true (Some r) now f timer =
    let s = record v { phase = Listening doubled; busy = true; reply = Some r } in
    by_test (λ (z : Station × Option (List ℕ)). IsFresh z.0) (nat_le r.ready now) (phase_says p s (Listening doubled) now) (s, None)
    (λ _. replied_fresh s doubled now r refl (no_join doubled v.las (Some r) f) f) (λ _. f)
turns_fresh p v (Listening doubled) false None now f timer =
    let s = record v { phase = Listening doubled; busy = false; reply = None } in
    by_test (λ y. IsFresh (speech p y (speaks_at y) now).0) (nat_lt (v.quiet + tto p v.address) (now + 1)) (claiming s (v.quiet + tto p v.address)) s
    (λ e. absurd (omega (arith, ltb-true (v.quiet + tto p v.address) (now + 1) e, timer tt refl))) (λ _. f)
turns_fresh p v (Listening doubled) false (Some r) now f timer =
    let s = record v { phase = Listening doubled; busy = false; reply = Some r } in
    by_test (λ y. IsFresh (speech p y (speaks_at y) now).0) (nat_lt (v.quiet + tto p v.address) (now + 1)) (claiming s (v.quiet + tto p v.address)) s
    (λ e. absurd (omega (arith, ltb-true (v.quiet + tto p v.address) (now + 1) e, timer tt refl)))
    (λ _. by_test (λ (z : Station × Option (List ℕ)). IsFresh z.0) (nat_le r.ready now) (phase_says p s (Listening doubled) now) (s, None)
    (λ _. replied_fresh s doubled now r refl (no_join doubled v.las (Some r) f) f) (λ _. f))
turns_fresh p v (Idle refused) busy reply now f timer = absurd f
turns_fresh p v (Claim sent moment) busy reply now f timer = absurd f
turns_fresh p v (Use asked moment) busy reply now f timer = absurd f
turns_fresh p v (AwaitData asked retry slot) busy reply now f timer = absurd f
turns_fresh p v (AwaitStatus of slot) busy reply now f timer = absurd f
turns_fresh p v (Pass tries moment) busy reply now f timer = absurd f
turns_fresh p v (Checking tries) busy reply now f timer = absurd f

-- a tap that senses nothing, while a telegram in the air reaches it, has run for a cable delay at most
senses_nothing : (c : Place) (trace : List Entry) (r : Record) (quiet : ℕ) (own : Span) → Knows c trace false quiet own → In (Sent r) trace → (r.tap ≡ c.tap → ⊥) → is_unheard (slice_get r.heard c.tap) ≡ false
    → c.since ≤ c.now → c.now < r.end + c.p.ttd → r.begin ≤ c.since → c.now ≤ quiet + c.p.ttd
senses_nothing c trace r quiet own k inside other heard began air older =
    let o = each_in (λ e. IsOver c.now c.now (heard_span c.p.ttd c.tap c.since e)) (Sent r) trace k.senses.1 inside in
    let here : IsOver c.now c.now (Some (record { begin = max (r.begin + c.p.ttd) c.since; end = r.end + c.p.ttd })) = subst (IsOver c.now c.now) (heard_is c.p.ttd c.tap c.since r other heard (omega arith)) o in
    let early : c.now ≤ max (r.begin + c.p.ttd) c.since = ⊎_elim (λ (a : c.now ≤ max (r.begin + c.p.ttd) c.since). a) (λ (b : r.end + c.p.ttd ≤ c.now). absurd (omega (arith, b))) here in
    omega (arith, early, k.started, k.order, k.ended)

knows_false : (c : Place) (trace : List Entry) (busy : Bool) (quiet : ℕ) (own : Span) → busy ≡ false → Knows c trace busy quiet own → Knows c trace false quiet own
knows_false c trace busy quiet own e k = subst (λ b. Knows c trace b quiet own) e k

-- a turn
fresh_turn : (p : Params) (now : ℕ) (trace : List Entry) (last : Option Record) (k : ℕ) (t : Tap) (x : Record) → LeavesTime p → TapHolds p now trace last k t → In (Sent x) trace → (x.tap ≡ k → ⊥) → is_unheard (slice_get x.heard k) ≡ false
    → now < x.end + p.ttd → x.begin ≤ t.since → IsFresh (view p t) → IsFresh (turn_of p t.station t.marks now).0
fresh_turn p now trace last k t x fits ok inside other heard air older fresh =
    turns_fresh p v v.phase v.busy v.reply now fresh (λ on b. omega (arith, early on b, fits.take))
  where
    v : Station
    v = view p t

    early : IsOn v.phase → v.busy ≡ false → now ≤ v.quiet + p.ttd
    early on b = senses_nothing (place p now k t) trace x v.quiet v.own
        (knows_false (place p now k t) trace v.busy v.quiet v.own b (knows_on (place p now k t) trace v.phase v.busy v.quiet v.own on ok.knows)) inside other heard ok.began air older

-- the entries of the trace, after a turn of a running tap
pub speaks_turn : (p : Params) (now : ℕ) (trace : List Entry) (waited : List Waited) (last : Option Record) (taps : List Tap) (i : ℕ) (t : Tap) (e : Entry) → LeavesTime p → slice_get taps i ≡ Some t → t.running ≡ true → TapHolds p now trace last i t
    → In e trace → EntryHolds p now taps trace waited last e → SpeaksOk p now taps e → SpeaksOk p now (slice_set taps i (record t { station = (turn_of p t.station t.marks now).0; marks = [] })) e
speaks_turn p now trace waited last taps i t (Noise span) fits at run ok inside o sp = tt
speaks_turn p now trace waited last taps i t (Sent x) fits at run ok inside o sp = record {
  own = sp.own;
  fresh = λ init air. beside_set p taps i t (record t { station = (turn_of p t.station t.marks now).0; marks = [] }) x.tap at refl
      (λ u hu runs ne e. fresh_turn p now trace last i t x fits ok inside ne (o.reaches_all i) air (o.older i t u at run hu ne e).0 (sp.fresh init air i t u at run hu ne e))
      (sp.fresh init air);
}

-- and the telegram that is said
own_first : {X : Type 0} (speaker k i : ℕ) (xs : List X) → speaker ≡ k + i → is_whole (slice_get (heard_at_first speaker k xs) i) ≡ false
own_first {X} speaker k i [] e = refl
own_first {X} speaker k zero (x ∷ xs) e = by_test (λ h. is_whole (Some h) ≡ false) (k == speaker) Own Pending (λ _. refl) (λ _. refl)
own_first {X} speaker k (suc i) (x ∷ xs) e = own_first speaker (k + 1) i xs (omega (arith, e))

pub speaks_said : (p : Params) (now : ℕ) (taps : List Tap) (i : ℕ) (t y : Tap) (octets : List ℕ) → slice_get taps i ≡ Some t → t.running ≡ true → y.spec ≡ t.spec → y.running ≡ true → has_namesakes taps ≡ false
    → SpeaksOk p now (slice_set taps i y) (Sent (sending i octets now taps))
speaks_said p now taps i t y octets at run same runs distinct = record {
  own = own_first i 0 i taps (omega arith);
  fresh = λ init air. beside_set p taps i t y i at same (λ u hu r ne e. absurd (ne refl))
      (λ k v u hv rv hu ne e. absurd (ne (one_address taps i k t v distinct at hv run rv (ap (λ (q : Tap). q.spec.address) (same_Some t u (sym at ∙ hu)) ∙ sym e))));
}

-- ---- the whole trace

-- after a turn of a running tap, with what it says
pub speakers_turn : (p : Params) (now : ℕ) (trace : List Entry) (waited : List Waited) (last : Option Record) (taps : List Tap) (i : ℕ) (t : Tap) (said : Option (List ℕ)) → LeavesTime p → slice_get taps i ≡ Some t → t.running ≡ true
    → has_namesakes taps ≡ false → TapHolds p now trace last i t → Each (EntryHolds p now taps trace waited last) trace → Each (SpeaksOk p now taps) trace
    → Each (SpeaksOk p now (slice_set taps i (record t { station = (turn_of p t.station t.marks now).0; marks = [] }))) (with_said i said now taps trace)
speakers_turn p now trace waited last taps i t said fits at run distinct ok entries speakers = says said
  where
    y : Tap
    y = record t { station = (turn_of p t.station t.marks now).0; marks = [] }

    old : Each (SpeaksOk p now (slice_set taps i y)) trace
    old = each_inside (λ e. EntryHolds p now taps trace waited last e × SpeaksOk p now taps e) (SpeaksOk p now (slice_set taps i y)) trace
        (λ e inside b. speaks_turn p now trace waited last taps i t e fits at run ok inside b.0 b.1)
        (each_both (EntryHolds p now taps trace waited last) (SpeaksOk p now taps) (λ e. EntryHolds p now taps trace waited last e × SpeaksOk p now taps e) trace (λ e o sp. (o, sp)) entries speakers)

    says : (said : Option (List ℕ)) → Each (SpeaksOk p now (slice_set taps i y)) (with_said i said now taps trace)
    says None = old
    says (Some octets) = each_with (SpeaksOk p now (slice_set taps i y)) (Sent (sending i octets now taps)) trace (speaks_said p now taps i t y octets at run refl run distinct) old
