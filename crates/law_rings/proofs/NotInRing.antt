-- What never comes to pass in an undisturbed ring: no station passes the token again, none claims it; and while a holder
-- speaks, no reply is on its way or waits.
use Rattle.std.proofs.Common.{◌≡◌, ℕ, suc, ◌+◌, ◌*◌, ◌<◌, ◌≤◌, ◌⊎◌, inl, inr, ⊎_elim, Bool, true, false, List, [], refl, sym, ap, ◌∙◌, subst, arith, Option, Some, None}
use Rattle.std.specs.Prelude.{slice_get, max, nat_lt, IfSome}
use Rattle.std.specs.Option.{option_and_then}
use Rattle.std.proofs.lemmas.Bool.{cases_lt, cases_eq, ltb-false}
use Rattle.std.proofs.lemmas.Option.{none-some, same_Some}
use Rattle.pb_timers.specs.Timers.{Params, tto}
use Rattle.law_turn.specs.Spans.{Span}
use Rattle.law_turn.specs.Phases.{Phase, Offline, PassiveIdle, Listening, Idle, Claim, Use, AwaitData, AwaitStatus, Pass, Checking, may_initiate}
use Rattle.law_turn.specs.Stations.{Station, Reply, phase_speaks, reply_moment}
use Rattle.law_model.specs.Trace.{Record, Entry, Sent, Noise}
use Rattle.law_model.specs.Medium.{Tap, part_after, is_unheard}
use Rattle.law_model.specs.World.{World}
use Rattle.law_model.proofs.Cases.{by_test}
use Rattle.law_runs.specs.Initiators.{is_initiator, telegram_of, offered_by}
use Rattle.law_token.proofs.pass.Brings.{one_sending}
use Rattle.law_token.specs.Lists.{Each}
use Rattle.law_token.specs.Places.{LeavesTime, heard_span, IsOver, Place}
use Rattle.law_token.specs.Tokens.{Held, Offers, Doomed}
use Rattle.law_token.specs.Views.{ViewOf, Knows, view, place, IsOn}
use Rattle.law_token.proofs.bus.Lists.{each_in, each_map}
use Rattle.law_token.proofs.bus.Pairs.{Public, HasOrigin, Old, Claims, none_new, claims_alone, Holding, Keeps, Has, hears_other}
use Rattle.law_token.proofs.bus.Hearers.{IsChecking}
use Rattle.law_turn.specs.Laws.{WaitsInPlace}
use Rattle.law_rings.proofs.Beginning.{taken_over}
use Rattle.law_token.proofs.bus.Live.{lives, holding_view, initiates_live, live_on}
use Rattle.law_token.proofs.pass.Taps.{knows_on}
use Rattle.law_token.proofs.turn.Actions.{MayClaim}
use Rattle.law_token.proofs.turn.Records.{reaches_each, last_initiates}
use Rattle.law_token.proofs.turn.Warrants.{public_known, not_doomed}
use Rattle.law_live.proofs.InTime.{in_time-view}
use Rattle.law_rings.specs.Ring.{Answers, IsArmed, IsDue, Bearer, wants_reply, brought_by}
use Rattle.law_rings.proofs.Calls.{HeldCall, held_call, TakenCall, taken_call, OffersCall, offers_call, offer_wants_none, call_brings}
use Rattle.law_rings.proofs.Reaching.{Undisturbed, last_call, Known, known, CallStands, call_stands}
use Rattle.law_rings.proofs.TapsPass.{RunsAt, holds_at, ring_at}

-- ---- who has the token

-- a holder holds it by its own call, or by a token that it has just taken
pub data HoldsAs (w : World) (base : ℕ) (members : List ℕ) (u : Undisturbed w base members) (k : ℕ) (t : Tap) : Type 0 where
  HoldsOwn : (own : Span) → Held u.invariant.keeps.inv.last k own → HeldCall u.ring.call k own → HoldsAs w base members u k t
  HoldsTaken : (at : ℕ) → TakenCall w.params.ttd u.ring.call k t.spec.address at → w.now ≤ at + w.params.tid1 + w.params.lag → at ≤ w.now → HoldsAs w base members u k t

-- by its view
pub holds_as : (w : World) (base : ℕ) (members : List ℕ) (u : Undisturbed w base members) (k : ℕ) (t : Tap) → RunsAt w k t → may_initiate (view w.params t).phase ≡ true → HoldsAs w base members u k t
holds_as w base members u k t at may = by (holding_view w.params w.now w.trace u.invariant.keeps.inv.last k t t.marks (holds_at w base members u k t at) may)
  where
    by : Holding (place w.params w.now k t) u.invariant.keeps.inv.last → HoldsAs w base members u k t
    by (Keeps own h) = HoldsOwn own h (held_call u.invariant.keeps.inv.last u.ring.call k own (last_call w base members u) h)
    by (Has m h late) = HoldsTaken m (taken_call w.params.ttd u.invariant.keeps.inv.last u.ring.call k t.spec.address m (last_call w base members u) h) late (taken_over w base members u k t m at.here h)

-- ---- no token is passed again

-- a station that checks has offered the token
checking_offers : (c : Place) (trace : List Entry) (last : Option Record) (ph : Phase) (b : Bool) (quiet : ℕ) (own : Span) (reply : Option Reply) → IsChecking ph → ViewOf c trace last ph b quiet own reply → Offers last c.tap own ⊎ Doomed c trace own
checking_offers c trace last (Checking tries) b quiet own reply is v = v.3
checking_offers c trace last Offline b quiet own reply is v = absurd is
checking_offers c trace last PassiveIdle b quiet own reply is v = absurd is
checking_offers c trace last (Listening doubled) b quiet own reply is v = absurd is
checking_offers c trace last (Idle refused) b quiet own reply is v = absurd is
checking_offers c trace last (Claim sent ready) b quiet own reply is v = absurd is
checking_offers c trace last (Use asked ready) b quiet own reply is v = absurd is
checking_offers c trace last (AwaitData asked retry slot) b quiet own reply is v = absurd is
checking_offers c trace last (AwaitStatus of slot) b quiet own reply is v = absurd is
checking_offers c trace last (Pass tries ready) b quiet own reply is v = absurd is

-- no token is sent again: the next station has taken it
pub never_repeats : (w : World) (base : ℕ) (members : List ℕ) (u : Undisturbed w base members) (k : ℕ) (t : Tap) → RunsAt w k t → IsChecking (view w.params t).phase → (view w.params t).own.end + w.params.tsl ≤ w.now → ⊥
never_repeats w base members u k t at is over =
    let v = view w.params t in
    let o = holds_at w base members u k t at in
    ⊎_elim (λ (h : Offers u.invariant.keeps.inv.last k v.own). offers (offers_call u.invariant.keeps.inv.last u.ring.call k v.own (last_call w base members u) h)) (λ (d : Doomed (place w.params w.now k t) w.trace v.own). not_doomed (place w.params w.now k t) w.trace v.own over d)
    (checking_offers (place w.params w.now k t) w.trace u.invariant.keeps.inv.last v.phase v.busy v.quiet v.own v.reply is o.view_ok)
  where
    b : Bearer w.params w.now w.taps u.ring.call
    b = u.ring.bearer

    offers : OffersCall u.ring.call k (view w.params t).own → ⊥
    offers c = ⊎_elim (λ (may : may_initiate (view w.params b.t).phase ≡ true). held (holds_as w base members u b.tap b.t (record { here = b.here; running = b.running }) may))
        (λ (air : (offered_by (brought_by u.ring.call.octets) ≡ Some b.t.spec.address) × (w.now < u.ring.call.end + w.params.ttd) × (u.ring.call.tap ≡ b.tap → ⊥)).
        let e = c.end in let take = u.invariant.keeps.fits.take in let n = air.1 in omega (arith, e, take, n, over)) b.bears
      where
        held : HoldsAs w base members u b.tap b.t → ⊥
        held (HoldsOwn own h hc) = none-some c.to (sym hc.no_offer ∙ c.offers)
        held (HoldsTaken m h late old) = let e = c.end in let a = h.heard_at in let take = u.invariant.keeps.fits.take in let order = u.invariant.keeps.fits.idle_order in omega (arith, e, a, take, order, late, over)

-- ---- no station claims the token

-- each record has its origin
origins : (w : World) (base : ℕ) (members : List ℕ) (u : Undisturbed w base members) → Each (HasOrigin w.params w.now w.trace []) w.trace
origins w base members u = each_map (Known w base members u) (HasOrigin w.params w.now w.trace []) w.trace one (known w base members u)
  where
    one : (e : Entry) → Known w base members u e → HasOrigin w.params w.now w.trace [] e
    one (Noise span) h = tt
    one (Sent x) h = (h.holds.begun, λ init late. let some = h.holds.some in (h.ring (omega (arith, late, some))).origin init late)

-- what is silent for a time-out meets no token
never_silent : (w : World) (base : ℕ) (members : List ℕ) (u : Undisturbed w base members) (k : ℕ) (t : Tap) (q : ℕ) → RunsAt w k t → may_initiate (view w.params t).phase ≡ false → q + 6 * w.params.tsl ≤ w.now → Each (Public w.params.ttd k w.now q) w.trace → ⊥
never_silent w base members u k t q at not_ over public = ⊎_elim held coming b.bears
  where
    p : Params
    p = w.params

    b : Bearer p w.now w.taps u.ring.call
    b = u.ring.bearer

    fits : LeavesTime p
    fits = u.invariant.keeps.fits

    claims : Claims (place p w.now k t) w.trace [] q
    claims = record { timeout = over; public = public; alone = λ m n ne late has. let wrong : false ≡ true = has in cc }

    held : may_initiate (view p b.t).phase ≡ true → ⊥
    held may =
        let there : RunsAt w b.tap b.t = record { here = b.here; running = b.running } in
        let ne : b.tap ≡ k → ⊥ = λ e. let same : b.t ≡ t = same_Some b.t t (sym b.here ∙ subst (λ i. slice_get w.taps i ≡ Some t) (sym e) at.here) in
        let wrong : true ≡ false = sym may ∙ ap (λ (z : Tap). may_initiate (view p z).phase) same ∙ not_ in cc in
        claims_alone p w.now k t.spec.address t.since b.tap b.t.spec.address b.t.since w.trace [] q fits claims ne (origins w base members u)
        (lives p w.now w.trace u.invariant.keeps.inv.last b.tap b.t b.t.marks fits (holds_at w base members u b.tap b.t there) (inl (initiates_live (view p b.t).phase may)))

    coming : (offered_by (brought_by u.ring.call.octets) ≡ Some b.t.spec.address) × (w.now < u.ring.call.end + p.ttd) × (u.ring.call.tap ≡ b.tap → ⊥) → ⊥
    coming air =
        let c = call_stands w base members u in
        let e = c.end in
        let n = air.1 in
        let take = fits.take in
        let there : Public p.ttd k w.now q (Sent c.r) = each_in (Public p.ttd k w.now q) (Sent c.r) w.trace public c.inside in
        ⊎_elim (λ (mine : c.r.tap ≡ k). let h = there.0 mine in omega (arith, h, e, n, take, over))
        (λ (other : c.r.tap ≡ k → ⊥).
        ⊎_elim
        (λ (new : w.now ≤ c.r.begin + p.ttd).
        let old : Old p.ttd w.now c.r.tap (suc w.now) (Sent c.r) = each_in (Old p.ttd w.now c.r.tap (suc w.now)) (Sent c.r) w.trace (none_new (place p w.now k t) w.trace [] q c.r.tap fits claims other (origins w base members u) (suc w.now)) c.inside in
        let init : is_initiator c.r ≡ true = subst (λ z. IfSome z (λ r. is_initiator r ≡ true)) c.last (last_initiates w.now w.trace u.invariant.keeps.inv.last u.invariant.keeps.inv.is_last) in
        old refl init (let begun = (each_in (Known w base members u) (Sent c.r) w.trace (known w base members u) c.inside).holds.begun in omega (arith, begun)) new)
        (λ (h : c.r.end + p.ttd ≤ q). omega (arith, h, e, n, over)) (there.1 other))
        (cases_eq c.r.tap k)

-- a phase that may claim does not initiate, and is not offline
claim_waits : (ph : Phase) → MayClaim ph → (may_initiate ph ≡ false) × IsOn ph
claim_waits (Listening doubled) m = (refl, tt)
claim_waits (Idle refused) m = (refl, tt)
claim_waits Offline m = absurd m
claim_waits PassiveIdle m = absurd m
claim_waits (Claim sent ready) m = absurd m
claim_waits (Use asked ready) m = absurd m
claim_waits (AwaitData asked retry slot) m = absurd m
claim_waits (AwaitStatus of slot) m = absurd m
claim_waits (Pass tries ready) m = absurd m
claim_waits (Checking tries) m = absurd m

-- no station claims the token: no time-out ends
pub never_claims : (w : World) (base : ℕ) (members : List ℕ) (u : Undisturbed w base members) (k : ℕ) (t : Tap) → RunsAt w k t → MayClaim (view w.params t).phase → (view w.params t).busy ≡ false
    → (view w.params t).quiet + tto w.params (view w.params t).address ≤ w.now → ⊥
never_claims w base members u k t at may still over =
    let v = view w.params t in
    let c = place w.params w.now k t in
    let o = holds_at w base members u k t at in
    let waits = claim_waits v.phase may in
    let knows = subst (λ z. Knows c w.trace z v.quiet v.own) still (knows_on c w.trace v.phase v.busy v.quiet v.own waits.1 o.knows) in
    let slot = u.invariant.keeps.fits.slot in
    never_silent w base members u k t v.quiet at waits.0 (omega (arith, over))
    (public_known c w.trace v.quiet v.own (omega (arith, over, slot)) knows (reaches_each w.params w.now k w.taps w.trace u.waited u.invariant.keeps.inv.last w.trace u.invariant.keeps.inv.entries))

-- ---- no reply while a holder speaks

-- a reply waits only with one that answers requests, and is sent in time
pub reply_late : (w : World) (base : ℕ) (members : List ℕ) (u : Undisturbed w base members) (j : ℕ) (x : Tap) (a : Reply) → RunsAt w j x → (view w.params x).reply ≡ Some a → w.now ≤ a.ready + w.params.lag
reply_late w base members u j x a at e = by (view w.params x).phase (holds_at w base members u j x at).silent.in_place (in_time-view w.params w.now w.trace u.invariant.keeps.inv.last j x x.marks (holds_at w base members u j x at)).1
  where
    there : IfSome (reply_moment (view w.params x).reply) (λ d. w.now ≤ d + w.params.lag) → w.now ≤ a.ready + w.params.lag
    there h = subst (λ z. IfSome (reply_moment z) (λ d. w.now ≤ d + w.params.lag)) e h

    none : (view w.params x).reply ≡ None → w.now ≤ a.ready + w.params.lag
    none n = absurd (none-some a (sym n ∙ e))

    by : (ph : Phase) → WaitsInPlace ph (view w.params x).reply → IfSome (phase_speaks (view w.params x).reply ph) (λ d. w.now ≤ d + w.params.lag) → w.now ≤ a.ready + w.params.lag
    by Offline n h = none n
    by PassiveIdle n h = there h
    by (Listening doubled) n h = there h
    by (Idle refused) n h = there h
    by (Claim sent ready) n h = none n
    by (Use asked ready) n h = none n
    by (AwaitData asked retry slot) n h = none n
    by (AwaitStatus of slot) n h = none n
    by (Pass tries ready) n h = none n
    by (Checking tries) n h = none n

-- one that waits in its slot knows the call as its own
armed_own : (c : Place) (trace : List Entry) (last : Option Record) (ph : Phase) (b : Bool) (quiet : ℕ) (own : Span) (reply : Option Reply) → ViewOf c trace last ph b quiet own reply → IsArmed ph b → Held last c.tap own
armed_own c trace last (AwaitData asked retry slot) b quiet own reply v a = v.1
armed_own c trace last (AwaitStatus of slot) b quiet own reply v a = v.1
armed_own c trace last Offline b quiet own reply v a = absurd a
armed_own c trace last PassiveIdle b quiet own reply v a = absurd a
armed_own c trace last (Listening doubled) b quiet own reply v a = absurd a
armed_own c trace last (Idle refused) b quiet own reply v a = absurd a
armed_own c trace last (Claim sent ready) b quiet own reply v a = absurd a
armed_own c trace last (Use asked ready) b quiet own reply v a = absurd a
armed_own c trace last (Pass tries ready) b quiet own reply v a = absurd a
armed_own c trace last (Checking tries) b quiet own reply v a = absurd a

-- a holder that may speak: its slot, if it is in one, is over
pub record MaySpeak (w : World) (k : ℕ) (t : Tap) : Type 0 where
  pub at : RunsAt w k t
  pub may : may_initiate (view w.params t).phase ≡ true
  pub still : (view w.params t).busy ≡ false
  pub past : (view w.params t).quiet ≤ w.now
  pub slot : IsArmed (view w.params t).phase (view w.params t).busy → (view w.params t).own.end + w.params.tsl ≤ w.now

-- the slot of its call is over, if it is armed
pub slot_over : (w : World) (base : ℕ) (members : List ℕ) (u : Undisturbed w base members) (k : ℕ) (t : Tap) → MaySpeak w k t → IsArmed (view w.params t).phase (view w.params t).busy → u.ring.call.end + w.params.tsl ≤ w.now
slot_over w base members u k t s armed =
    let v = view w.params t in
    let o = holds_at w base members u k t s.at in
    let h = held_call u.invariant.keeps.inv.last u.ring.call k v.own (last_call w base members u) (armed_own (place w.params w.now k t) w.trace u.invariant.keeps.inv.last v.phase v.busy v.quiet v.own v.reply o.view_ok armed) in
    let e = h.end in let over = s.slot armed in omega (arith, e, over)

-- no reply is due while another station may initiate
pub none_due : (w : World) (base : ℕ) (members : List ℕ) (u : Undisturbed w base members) (k : ℕ) (t : Tap) → MaySpeak w k t → (j : ℕ) (x : Tap) → RunsAt w j x → (view w.params x).reply ≡ None
none_due w base members u k t s j x at = by (view w.params x).reply refl
  where
    by : (o : Option Reply) → (view w.params x).reply ≡ o → o ≡ None
    by None e = refl
    by (Some a) e = absurd (held (holds_as w base members u k t s.at s.may))
      where
        d : IsDue w.params base w.taps w.trace u.ring.call j x a
        d = subst (λ z. IfSome z (λ a. IsDue w.params base w.taps w.trace u.ring.call j x a)) e (ring_at w base members u j x at).replies

        held : HoldsAs w base members u k t → ⊥
        held (HoldsOwn own h hc) =
            let armed = d.armed t (subst (λ i. slice_get w.taps i ≡ Some t) (sym hc.by) s.at.here) s.at.running in
            let over = slot_over w base members u k t s armed in
            let late = reply_late w base members u j x a at e in
            let ready = d.ready in
            let in_time = u.flow.reply_in_time in
            omega (arith, over, late, ready, in_time)
        held (HoldsTaken m h late old) = offer_wants_none (brought_by u.ring.call.octets) t.spec.address h.offers d.wanted

-- what another has sent is over everywhere
heard_over : (c : Place) (trace : List Entry) (y : Record) → c.since < c.now → y.begin < y.end → (y.tap ≡ c.tap → ⊥) → is_unheard (slice_get y.heard c.tap) ≡ false → IsOver c.now c.now (heard_span c.p.ttd c.tap c.since (Sent y))
    → (c.now ≤ y.begin + c.p.ttd) ⊎ (y.end + c.p.ttd ≤ c.now)
heard_over c trace y from some ne reached over =
    by_test (λ (o : Option Span). IsOver c.now c.now o → (c.now ≤ y.begin + c.p.ttd) ⊎ (y.end + c.p.ttd ≤ c.now)) (nat_lt c.since (y.end + c.p.ttd)) (Some (record { begin = max (y.begin + c.p.ttd) c.since; end = y.end + c.p.ttd })) None
    (λ _ h. ⊎_elim (λ (a : c.now ≤ max (y.begin + c.p.ttd) c.since). inl (omega (arith, a, from))) (λ (b : y.end + c.p.ttd ≤ c.now). inr b) h)
    (λ old _. inr (let o = ltb-false c.since (y.end + c.p.ttd) old in omega (arith, o, from)))
    (subst (λ (h : Option Span). IsOver c.now c.now (option_and_then (part_after c.since) h)) (hears_other c.p.ttd c.tap y ne reached) over)

-- a holder that speaks has no reply on its way
pub replies_over : (w : World) (base : ℕ) (members : List ℕ) (u : Undisturbed w base members) (k : ℕ) (t : Tap) → MaySpeak w k t → (y : Record) → Known w base members u (Sent y) → is_initiator y ≡ false → y.end + w.params.ttd ≤ w.now
replies_over w base members u k t s y h none = ⊎_elim (λ (air : w.now < y.end + w.params.ttd). absurd (never air)) (λ (over : y.end + w.params.ttd ≤ w.now). over) (cases_lt w.now (y.end + w.params.ttd))
  where
    v : Station
    v = view w.params t

    never : w.now < y.end + w.params.ttd → ⊥
    never air = held (holds_as w base members u k t s.at s.may)
      where
        a : Answers w.params base u.ring.call y
        a = (h.ring air).answers none

        held : HoldsAs w base members u k t → ⊥
        held (HoldsTaken m g late old) = offer_wants_none (brought_by u.ring.call.octets) t.spec.address g.offers a.wanted
        held (HoldsOwn own g hc) =
            ⊎_elim
            (λ (new : w.now ≤ y.begin + w.params.ttd).
            let armed = h.awaited none new t (subst (λ i. slice_get w.taps i ≡ Some t) (sym hc.by) s.at.here) s.at.running in
            let over = slot_over w base members u k t s armed in
            let soon = a.soon in
            let in_time = u.flow.reply_in_time in
            omega (arith, new, over, soon, in_time))
            (λ (over : y.end + w.params.ttd ≤ w.now). omega (arith, over, air))
            (heard_over c w.trace y (let since = (ring_at w base members u k t s.at).since in let from = u.ring.from in omega (arith, since, from)) h.holds.some (λ e. a.another (e ∙ sym hc.by)) (h.holds.reaches_all k)
            (each_in (λ e. IsOver w.now w.now (heard_span w.params.ttd k t.since e)) (Sent y) w.trace knows.senses.1 h.inside))
          where
            c : Place
            c = place w.params w.now k t

            knows : Knows c w.trace false v.quiet v.own
            knows = subst (λ z. Knows c w.trace z v.quiet v.own) s.still (knows_on c w.trace v.phase v.busy v.quiet v.own (live_on v.phase (initiates_live v.phase s.may)) (holds_at w base members u k t s.at).knows)

-- and what wants a reply is not on its way
pub none_wanted : (w : World) (base : ℕ) (members : List ℕ) (u : Undisturbed w base members) (k : ℕ) (t : Tap) → MaySpeak w k t → (y : Record) → Known w base members u (Sent y) → w.now < y.end + w.params.ttd → wants_reply (telegram_of y) ≡ true → ⊥
none_wanted w base members u k t s y h air wants = held (holds_as w base members u k t s.at s.may)
  where
    c : CallStands w base members u
    c = call_stands w base members u

    single : (y.tap ≡ u.ring.call.tap) × (y.begin ≡ u.ring.call.begin)
    single = (h.ring air).single wants

    same : y ≡ c.r
    same = one_sending w.trace y c.r u.invariant.keeps.inv.others h.inside c.inside (single.0 ∙ sym c.tap) (single.1 ∙ sym c.begin)

    wanted : wants_reply (brought_by u.ring.call.octets) ≡ true
    wanted = ap wants_reply (sym (call_brings u.ring.call c.r c.octets) ∙ ap telegram_of (sym same)) ∙ wants

    in_air : w.now < u.ring.call.end + w.params.ttd
    in_air = let e = ap (λ (z : Record). z.end) same in let ce = c.end in omega (arith, e, ce, air)

    held : HoldsAs w base members u k t → ⊥
    held (HoldsTaken m g late old) = offer_wants_none (brought_by u.ring.call.octets) t.spec.address g.offers wanted
    held (HoldsOwn own g hc) =
        let armed = u.ring.request wanted in_air t (subst (λ i. slice_get w.taps i ≡ Some t) (sym hc.by) s.at.here) s.at.running in
        let over = slot_over w base members u k t s armed in
        let take = u.invariant.keeps.fits.take in
        omega (arith, over, in_air, take)
