-- A token is taken at the first try: as it ends at the tap to which it goes, that tap uses it.
use Rattle.std.proofs.Common.{◌≡◌, ℕ, ◌+◌, ◌<◌, ◌≤◌, ◌⊎◌, inl, inr, ⊎_elim, Bool, true, false, if◌then◌else◌, ◌==◌, ◌||◌, List, refl, sym, ap, ◌∙◌, subst, arith, Option, Some, None}
use Rattle.std.specs.Prelude.{slice_get, max, IfSome}
use Rattle.std.specs.Option.{option_and_then}
use Rattle.std.proofs.lemmas.Bool.{cases_eq, lt-ltb}
use Rattle.std.proofs.lemmas.Option.{none-some, same_Some}
use Rattle.pb_timers.specs.Timers.{Params}
use Rattle.pb_rotation.specs.Rotation.{received}
use Rattle.law_turn.specs.Spans.{Span}
use Rattle.law_turn.specs.Arrivals.{Arrival, Token, Framed, Acknowledgement, NoTelegram, arrival_of}
use Rattle.law_turn.specs.Phases.{Phase, Offline, PassiveIdle, Listening, Idle, Claim, Use, AwaitData, AwaitStatus, Pass, Checking, may_initiate}
use Rattle.law_turn.specs.Stations.{Station}
use Rattle.law_turn.specs.Hearing.{begun, ended}
use Rattle.law_model.specs.Trace.{Record, Entry, Sent, Noise}
use Rattle.law_model.specs.Medium.{Tap, part_after, reaches, is_unheard, sensed, burst_characters}
use Rattle.law_model.specs.World.{World}
use Rattle.law_model.proofs.Cases.{by_test}
use Rattle.law_model.proofs.Window.{SolidO, NoBegin, OverSince}
use Rattle.law_runs.specs.Initiators.{offered_by}
use Rattle.law_token.specs.Places.{heard_span, IsOver}
use Rattle.law_token.specs.Views.{ViewOf, Senses, view, place, TapHolds, IsOn}
use Rattle.law_token.proofs.bus.Lists.{each_in, each_both}
use Rattle.law_token.proofs.bus.Spans.{to_spans, from_spans}
use Rattle.law_token.proofs.bus.Pairs.{hears_other, over_clip}
use Rattle.law_token.proofs.pass.Brings.{one_sending}
use Rattle.law_token.proofs.pass.Taps.{knows_on}
use Rattle.law_rings.specs.Ring.{TakesPart, IsMember, RingTap, is_question, brought_by}
use Rattle.law_rings.proofs.Calls.{held_call}
use Rattle.law_rings.proofs.HearInRing.{EndsAs, Takes, Stays, Makes, GoesOn, IsHearing, ring_ends}
use Rattle.law_rings.proofs.Reaching.{Undisturbed, last_call, Known, known, CallStands, call_stands}
use Rattle.law_rings.proofs.PassOfTime.{PassOf, HearsNothing, HearsBegin, HearsEnd}
use Rattle.law_rings.proofs.Whole.{IsApart, IsBehind, behind_call, call_arrives, arrives}
use Rattle.law_rings.proofs.TapPass.{BegunAs, begun_as, status_before, status_asked, busy_hears, held_hears, held_begun, may_end}
use Rattle.law_rings.proofs.TapsPass.{Passes, RunsAt, then_view, then_arrival, holds_at, ring_at, view_address, solid_at, reads_pass}

-- a phase that takes part is not offline
pub part_on : (ph : Phase) → TakesPart ph → IsOn ph
part_on (Idle refused) x = tt
part_on (Use asked ready) x = tt
part_on (AwaitData asked retry slot) x = tt
part_on (AwaitStatus of slot) x = tt
part_on (Checking tries) x = tt
part_on Offline x = absurd x
part_on PassiveIdle x = absurd x
part_on (Listening doubled) x = absurd x
part_on (Claim sent ready) x = absurd x
part_on (Pass tries ready) x = absurd x

-- what offers the token is a token
offer_is : (a : Arrival) (to : ℕ) → offered_by a ≡ Some to → (sa : ℕ) × (a ≡ Token to sa)
offer_is (Token da sa) to e = by (da == sa) e
  where
    by : (b : Bool) → (if b then None else Some da) ≡ Some to → (z : ℕ) × (Token da sa ≡ Token to z)
    by true e = absurd cc
    by false e = (sa, ap (λ n. Token n sa) (same_Some da to e))
offer_is (Framed f) to e = absurd (none-some to e)
offer_is Acknowledgement to e = absurd (none-some to e)
offer_is NoTelegram to e = absurd (none-some to e)

-- the call is on its way to a tap
pub record OnItsWayTo (w : World) (base : ℕ) (members : List ℕ) (u : Undisturbed w base members) (k : ℕ) (t : Tap) : Type 0 where
  pub at : RunsAt w k t
  pub another : u.ring.call.tap ≡ k → ⊥
  pub air : w.now < u.ring.call.end + w.params.ttd

-- it was sent since the ring is undisturbed
pub air_since : (w : World) (base : ℕ) (members : List ℕ) (u : Undisturbed w base members) → w.now < u.ring.call.end + w.params.ttd → base ≤ u.ring.call.begin
air_since w base members u air =
    let c = call_stands w base members u in
    let h = each_in (Known w base members u) (Sent c.r) w.trace (known w base members u) c.inside in
    let s = (h.ring (let e = c.end in omega (arith, air, e))).since in
    let b = c.begin in omega (arith, s, b)

-- as the tap hears it
call_span : (w : World) (base : ℕ) (members : List ℕ) (u : Undisturbed w base members) (k : ℕ) (t : Tap) → OnItsWayTo w base members u k t
    → heard_span w.params.ttd k t.since (Sent (call_stands w base members u).r) ≡ Some (record { begin = max ((call_stands w base members u).r.begin + w.params.ttd) t.since; end = (call_stands w base members u).r.end + w.params.ttd })
call_span w base members u k t o =
    let c = call_stands w base members u in
    let d = w.params.ttd in
    let y : Span = record { begin = max (c.r.begin + d) t.since; end = c.r.end + d } in
    let reached = (each_in (Known w base members u) (Sent c.r) w.trace (known w base members u) c.inside).holds.reaches_all k in
    ap (option_and_then (part_after t.since)) (hears_other d k c.r (λ e. o.another (sym c.tap ∙ e)) reached)
    ∙ ap (λ b. if b then Some y else None) (lt-ltb t.since (c.r.end + d) (let e = c.end in let from = u.ring.from in let early = (ring_at w base members u k t o.at).since in let air = o.air in omega (arith, e, from, early, air)))

-- a pass goes no further than to its end there
pub pass_by_end : (w : World) (base : ℕ) (members : List ℕ) (to : ℕ) (q : Passes w base members to) (k : ℕ) (t : Tap) → OnItsWayTo w base members q.u k t → to ≤ q.u.ring.call.end + w.params.ttd
pass_by_end w base members to q k t o =
    let c = call_stands w base members q.u in
    let all = from_spans (SolidO w.now to) w.params.ttd k t.since w.trace tt (solid_at w base members to q k t.since) in
    let s = subst (SolidO w.now to) (call_span w base members q.u k t o) (each_in (λ e. SolidO w.now to (heard_span w.params.ttd k t.since e)) (Sent c.r) w.trace all c.inside) in
    let e = c.end in
    let air = o.air in
    let h = s.1 (omega (arith, e, air)) in omega (arith, e, h)

-- as it ends there, all that the tap heard is over
all_over : (w : World) (base : ℕ) (members : List ℕ) (to : ℕ) (q : Passes w base members to) (k : ℕ) (t : Tap) → OnItsWayTo w base members q.u k t → to ≡ q.u.ring.call.end + w.params.ttd → OverSince to to (sensed w.params.ttd k t.since w.trace)
all_over w base members to q k t o ends =
    to_spans (IsOver to to) w.params.ttd k t.since w.trace
    (each_both (Known w base members q.u) (λ e. IsApart c.r e → IsBehind w.params.ttd q.u.ring.call e) (λ e. IsOver to to (heard_span w.params.ttd k t.since e)) w.trace one (known w base members q.u)
    (behind_call w base members q.u o.air (air_since w base members q.u o.air)))
  where
    c : CallStands w base members q.u
    c = call_stands w base members q.u

    sent : (x : Record) → x.end + w.params.ttd ≤ to → IsOver to to (heard_span w.params.ttd k t.since (Sent x))
    sent x le = by_test (λ (h : Option Span). IsOver to to (option_and_then (part_after t.since) h)) (x.tap == k || is_unheard (slice_get x.heard k)) None (Some (reaches w.params.ttd x)) (λ _. tt) (λ _. over_clip to to t.since (reaches w.params.ttd x) (inr le))

    one : (e : Entry) → Known w base members q.u e → (IsApart c.r e → IsBehind w.params.ttd q.u.ring.call e) → IsOver to to (heard_span w.params.ttd k t.since e)
    one (Noise span) h b = over_clip to to t.since span (inr (let a = (b tt).noise span refl in let s = c.some in omega (arith, a, s, ends)))
    one (Sent x) h b =
        ⊎_elim
        (λ (same : x.tap ≡ c.r.tap).
        ⊎_elim (λ (begins : x.begin ≡ c.r.begin). let is = one_sending w.trace x c.r q.u.invariant.keeps.inv.others h.inside c.inside same begins in let e = ap (λ (z : Record). z.end) is in let ce = c.end in sent x (omega (arith, e, ce, ends)))
        (λ (ne : x.begin ≡ c.r.begin → ⊥). sent x (let a = ((b (λ _ z. ne z)).sent x refl).0 in let s = c.some in omega (arith, a, s, ends))) (cases_eq x.begin c.r.begin))
        (λ (ne : x.tap ≡ c.r.tap → ⊥). sent x (let a = ((b (λ z _. ne z)).sent x refl).0 in let s = c.some in omega (arith, a, s, ends)))
        (cases_eq x.tap c.r.tap)

-- ---- taking

-- a station that has taken the token at a moment
pub record HasTaken (p : Params) (to : ℕ) (v v' : Station) : Type 0 where
  pub phase : v'.phase ≡ Use false (to + p.tid1)
  pub rotation : v'.rotation ≡ received v.rotation to

-- it is whole there, and comes from the station before
pub takes : (w : World) (base : ℕ) (members : List ℕ) (to : ℕ) (q : Passes w base members to) (k : ℕ) (t : Tap) → OnItsWayTo w base members q.u k t → to ≡ q.u.ring.call.end + w.params.ttd → TakesPart (view w.params t).phase
    → offered_by (brought_by q.u.ring.call.octets) ≡ Some t.spec.address → HasTaken w.params to (view w.params t) (then_view w k to t)
takes w base members to q k t o ends part offers = by (reads_pass w base members to q k t o.at on)
  where
    p : Params
    p = w.params

    v : Station
    v = view p t

    xs : List Span
    xs = sensed p.ttd k t.since w.trace

    a : Arrival
    a = then_arrival w k to t

    h : TapHolds p w.now w.trace q.u.invariant.keeps.inv.last k t
    h = holds_at w base members q.u k t o.at

    r : RingTap p base members w.taps w.trace q.u.ring.call k t
    r = ring_at w base members q.u k t o.at

    on : IsOn v.phase
    on = part_on v.phase part

    over : OverSince to to xs
    over = all_over w base members to q k t o ends

    -- it ends as the token
    token : (sa : ℕ) × (a ≡ Token t.spec.address sa)
    token = let e : a ≡ brought_by q.u.ring.call.octets = ap (λ n. arrival_of (burst_characters p.ttd k t w.trace n)) ends ∙ call_arrives w base members q.u k t o.air (air_since w base members q.u o.air) o.another r.since in
        offer_is a t.spec.address (ap offered_by e ∙ offers)

    -- the call begins in the pass, if the station is not busy
    begins : v.busy ≡ false → NoBegin w.now to xs → ⊥
    begins still none =
        let c = call_stands w base members q.u in
        let is = call_span w base members q.u k t o in
        let kn = knows_on (place p w.now k t) w.trace v.phase v.busy v.quiet v.own on h.knows in
        let senses = subst (λ b. Senses (place p w.now k t) w.trace b v.quiet) still kn.senses in
        let then_ = subst (IsOver w.now w.now) is (each_in (λ e. IsOver w.now w.now (heard_span p.ttd k t.since e)) (Sent c.r) w.trace senses.1 c.inside) in
        let n = subst (λ z. IfSome z (λ y. (y.begin < w.now) ⊎ (to ≤ y.begin))) is (each_in (λ e. IfSome (heard_span p.ttd k t.since e) (λ y. (y.begin < w.now) ⊎ (to ≤ y.begin))) (Sent c.r) w.trace
        (from_spans (λ z. IfSome z (λ y. (y.begin < w.now) ⊎ (to ≤ y.begin))) p.ttd k t.since w.trace tt none) c.inside) in
        let e = c.end in
        let b = c.begin in
        let s = c.some in
        let later = q.later in
        let early = r.since in
        let from = q.u.ring.from in
        ⊎_elim (λ (x : w.now ≤ max (c.r.begin + p.ttd) t.since). ⊎_elim (λ (y : max (c.r.begin + p.ttd) t.since < w.now). omega (arith, x, y)) (λ (y : to ≤ max (c.r.begin + p.ttd) t.since). omega (arith, y, ends, e, b, s, later, early, from)) n)
        (λ (x : c.r.end + p.ttd ≤ w.now). omega (arith, x, ends, e, later)) then_

    -- by a station that hears it to its end
    hears : (s : Station) → IsHearing s.phase ⊎ (s.phase ≡ PassiveIdle) → s.address ≡ v.address → s.rotation ≡ v.rotation → TakesPart s.phase → IsMember members t.spec.address s.las → (may_initiate s.phase ≡ true → q.u.ring.call.tap ≡ k)
        → ((of : ℕ) (slot : Bool) → s.phase ≡ AwaitStatus of slot → (may_initiate s.phase ≡ true) × (base ≤ q.u.ring.call.begin → is_question (brought_by q.u.ring.call.octets) ≡ true)) → then_view w k to t ≡ ended p s to a → HasTaken p to v (then_view w k to t)
    hears s (inr passive) address rotation takes_part member mine status e = absurd (subst TakesPart passive takes_part)
    hears s (inl hearing) address rotation takes_part member mine status e = subst (HasTaken p to v) (sym e) (ended_as (ring_ends p members s to a q.u.ring.ascends hearing (may_end w base members q.u k to s.phase a q.later mine status (arrives w base members q.u k to t q.later)) (subst (λ n. IsMember members n s.las) (sym same) member)).how)
      where
        same : s.address ≡ t.spec.address
        same = address ∙ view_address w base members q.u k t o.at

        ended_as : EndsAs p s to a (ended p s to a) → HasTaken p to v (ended p s to a)
        ended_as (Takes da sa e' mine' ph rot reply) = record { phase = ph; rotation = rot ∙ ap (λ z. received z to) rotation }
        ended_as (Stays ph rot reply other i) = absurd (other takes_part t.spec.address token.0 token.1 (sym same))
        ended_as (Makes f e' station_type is ph rot reply i) = absurd (let wrong : Token t.spec.address token.0 ≡ Framed f = sym token.1 ∙ e' in cc)
        ended_as (GoesOn i i' part' as_ rot reply) = absurd (o.another (mine i))

    by : PassOf p w.now to xs a v (then_view w k to t) → HasTaken p to v (then_view w k to t)
    by (HearsNothing e none opened) = absurd (by_busy v.busy refl)
      where
        by_busy : (b : Bool) → v.busy ≡ b → ⊥
        by_busy true busy = let n = opened busy to over in omega (arith, n)
        by_busy false still = begins still (none still)
    by (HearsBegin m low high still may e some opened) = absurd (let n = opened to over in omega (arith, n))
    by (HearsEnd s busy (inl same) e closed) =
        hears v (busy_hears (place p w.now k t) w.trace q.u.invariant.keeps.inv.last v.phase v.quiet v.own v.reply ok r.undisturbed on) refl refl part (r.member part) mine
        (λ of slot e. let i : may_initiate v.phase ≡ true = ap may_initiate e in (i, λ from. status_asked v.phase of slot e (is_question (brought_by q.u.ring.call.octets)) (r.asked from (mine i)))) (e ∙ ap (λ z. ended p z to a) same)
      where
        ok : ViewOf (place p w.now k t) w.trace q.u.invariant.keeps.inv.last v.phase true v.quiet v.own v.reply
        ok = subst (λ z. ViewOf (place p w.now k t) w.trace q.u.invariant.keeps.inv.last v.phase z v.quiet v.own v.reply) (ap (λ (z : Station). z.busy) (sym same) ∙ busy) h.view_ok

        mine : may_initiate v.phase ≡ true → q.u.ring.call.tap ≡ k
        mine i = ⊎_elim
            (λ (z : IsHearing v.phase). (held_call q.u.invariant.keeps.inv.last q.u.ring.call k v.own (last_call w base members q.u) (held_hears (place p w.now k t) w.trace q.u.invariant.keeps.inv.last v.phase true v.quiet v.own v.reply ok z i)).by)
            (λ (ph : v.phase ≡ PassiveIdle). absurd (subst TakesPart ph part)) (busy_hears (place p w.now k t) w.trace q.u.invariant.keeps.inv.last v.phase v.quiet v.own v.reply ok r.undisturbed on)
    by (HearsEnd s busy (inr x) e closed) =
        hears y (b.hears on) refl refl (b.forth part) (r.member part) mine
        (λ of slot e. let i : may_initiate y.phase ≡ true = ap may_initiate e in (i, λ from. status_before v.phase v.own.begin x.0 of slot e (is_question (brought_by q.u.ring.call.octets)) (r.asked from (mine i)))) (e ∙ ap (λ z. ended p z to a) x.3)
      where
        y : Station
        y = begun v x.0

        b : BegunAs v.phase y.phase
        b = begun_as p v v.phase x.0 x.2

        mine : may_initiate y.phase ≡ true → q.u.ring.call.tap ≡ k
        mine i = (held_call q.u.invariant.keeps.inv.last q.u.ring.call k v.own (last_call w base members q.u)
            (held_begun p v (place p w.now k t) w.trace q.u.invariant.keeps.inv.last v.phase x.0 v.busy v.quiet v.own v.reply x.2 h.view_ok (b.initiated i))).by
