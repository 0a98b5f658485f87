-- What begins at a tap of an undisturbed ring begins before its timer is over, and never while it uses the token.
use Rattle.std.proofs.Common.{◌≡◌, ℕ, ◌+◌, ◌*◌, ◌<◌, ◌≤◌, ◌⊎◌, inl, inr, ⊎_elim, Bool, true, false, if◌then◌else◌, List, refl, sym, ap, ◌∙◌, subst, arith, Option, Some, None}
use Rattle.std.specs.Prelude.{slice_get, max, nat_lt, IfSome}
use Rattle.std.specs.Option.{option_and_then}
use Rattle.std.proofs.lemmas.Bool.{ltb-false, cases_lt, cases_eq}
use Rattle.pb_timers.specs.Timers.{Params, tto}
use Rattle.law_turn.specs.Spans.{Span}
use Rattle.law_turn.specs.Phases.{Phase, Offline, PassiveIdle, Listening, Idle, Claim, Use, AwaitData, AwaitStatus, Pass, Checking}
use Rattle.law_turn.specs.Stations.{Station, timer_of, phase_timer}
use Rattle.law_model.specs.Trace.{Record, Entry, Sent, Noise}
use Rattle.law_model.specs.Medium.{Tap, part_after, is_unheard}
use Rattle.law_model.specs.World.{World}
use Rattle.law_model.proofs.Cases.{by_test}
use Rattle.law_runs.specs.Initiators.{is_initiator}
use Rattle.law_token.specs.Lists.{Each, In}
use Rattle.law_token.specs.Places.{LeavesTime, heard_span, Place, Spares}
use Rattle.law_token.specs.Tokens.{Held, Taken, Offers, Doomed}
use Rattle.law_token.specs.Views.{ViewOf, Knows, view, place, TapHolds, IsOn}
use Rattle.law_token.specs.Entries.{EntryHolds, EndedBefore}
use Rattle.law_token.proofs.bus.Lists.{each_in, each_map, each_both}
use Rattle.law_token.proofs.bus.Pairs.{Public, Reaches, hears_other}
use Rattle.law_token.proofs.pass.Brings.{HasLength}
use Rattle.law_token.proofs.pass.Taps.{knows_on}
use Rattle.law_token.proofs.turn.Records.{reaches_each}
use Rattle.law_token.proofs.turn.Warrants.{public_known}
use Rattle.law_runs.specs.Legality.{is_whole}
use Rattle.law_rings.specs.Ring.{IsCall, OnItsWay, IsUndisturbed, IsArmed, RingTap, wants_reply, brought_by}
use Rattle.law_rings.proofs.Calls.{held_call, TakenCall, taken_call, offers_call, offer_wants_none}
use Rattle.law_rings.proofs.Reaching.{Undisturbed, last_call, Known, known, CallStands, call_stands, by_caller}
use Rattle.law_rings.proofs.Calls.{order_call}

-- ---- the first that begins

-- what a tap hears begins at a moment or later, or is over by the clock
abbrev pub FirstAt : (now m : ℕ) → Option Span → Type 0
FirstAt now m None = Unit {0}
FirstAt now m (Some y) = (m ≤ y.begin) ⊎ ((y.begin < now) × (y.end ≤ now))

abbrev pub IsFirst : Place → List Entry → ℕ → Type 0
IsFirst c trace m = Each (λ e. FirstAt c.now m (heard_span c.p.ttd c.tap c.since e)) trace

-- a telegram of another, heard or not yet
first_other : (c : Place) (m : ℕ) (x : Record) → c.since < c.now → c.now ≤ m → (x.tap ≡ c.tap → ⊥) → is_unheard (slice_get x.heard c.tap) ≡ false → FirstAt c.now m (heard_span c.p.ttd c.tap c.since (Sent x))
    → (m ≤ x.begin + c.p.ttd) ⊎ (x.end + c.p.ttd ≤ c.now)
first_other c m x from late ne reached f =
    by_test (λ (o : Option Span). FirstAt c.now m o → (m ≤ x.begin + c.p.ttd) ⊎ (x.end + c.p.ttd ≤ c.now)) (nat_lt c.since (x.end + c.p.ttd)) (Some (record { begin = max (x.begin + c.p.ttd) c.since; end = x.end + c.p.ttd })) None
    (λ _ h. ⊎_elim (λ (a : m ≤ max (x.begin + c.p.ttd) c.since). inl (omega (arith, a))) (λ (b : (max (x.begin + c.p.ttd) c.since < c.now) × (x.end + c.p.ttd ≤ c.now)). inr b.1) h)
    (λ over _. inr (let o = ltb-false c.since (x.end + c.p.ttd) over in omega (arith, o)))
    (subst (λ (h : Option Span). FirstAt c.now m (option_and_then (part_after c.since) h)) (hears_other c.p.ttd c.tap x ne reached) f)

-- ---- one that waits for its time-out

-- what was over for it was over for the speaker of what reaches it first
ended_for : (c : Place) (m q : ℕ) (x : Record) → c.now ≤ m → m ≡ x.begin + c.p.ttd → x.begin ≤ c.now → c.since < c.now → (x.tap ≡ c.tap → ⊥) → (e : Entry) → HasLength e → Reaches c.tap e → Public c.p.ttd c.tap c.now q e
    → FirstAt c.now m (heard_span c.p.ttd c.tap c.since e) → EndedBefore c.p.ttd x.tap x.begin (q + c.p.ttd) e
ended_for c m q x late at begun from ne (Noise span) some reached public first = ⊎_elim (λ (a : c.now ≤ span.begin). inl (omega arith)) (λ (b : span.end ≤ q). inr (omega arith)) public
ended_for c m q x late at begun from ne (Sent f) some reached public first = (
  λ by init. let other : f.tap ≡ c.tap → ⊥ = λ z. ne (sym by ∙ z) in
      ⊎_elim
      (λ (a : c.now ≤ f.begin + c.p.ttd). ⊎_elim (λ (u : m ≤ f.begin + c.p.ttd). inl (omega (arith, u, at))) (λ (v : f.end + c.p.ttd ≤ c.now). absurd (omega (arith, a, v, some))) (first_other c m f from late other reached first))
      (λ (b : f.end + c.p.ttd ≤ q). inr (omega (arith, b))) (public.1 other),
  λ apart. ⊎_elim (λ (mine : f.tap ≡ c.tap). let h = public.0 mine in inr (omega (arith, h)))
      (λ (other : f.tap ≡ c.tap → ⊥). ⊎_elim (λ (a : c.now ≤ f.begin + c.p.ttd). inl (omega (arith, a, begun))) (λ (b : f.end + c.p.ttd ≤ q). inr (omega (arith, b))) (public.1 other)) (cases_eq f.tap c.tap),
)

-- what reaches a tap first comes less than two slots after the last that it knows of
soon_after : (w : World) (base : ℕ) (members : List ℕ) (u : Undisturbed w base members) (k : ℕ) (t : Tap) (quiet m : ℕ) (x : Record) → base ≤ w.now → t.since < base → quiet < w.now → Each (Public w.params.ttd k w.now quiet) w.trace
    → w.now ≤ m → m ≡ x.begin + w.params.ttd → (x.tap ≡ k → ⊥) → Known w base members u (Sent x) → OnItsWay w.params base w.now members w.trace u.ring.call x → IsFirst (place w.params w.now k t) w.trace m
    → m ≤ quiet + 2 * w.params.tsl
soon_after w base members u k t quiet m x from early old public late at ne h way first = by (is_initiator x) refl
  where
    p : Params
    p = w.params

    c : Place
    c = place p w.now k t

    fits : LeavesTime p
    fits = u.invariant.keeps.fits

    begun : x.begin ≤ w.now
    begun = h.holds.begun

    call : CallStands w base members u
    call = call_stands w base members u

    over : Each (λ e. HasLength e × Reaches k e × Public p.ttd k w.now quiet e) w.trace
    over = each_both (Known w base members u) (λ e. Reaches k e × Public p.ttd k w.now quiet e) (λ e. HasLength e × Reaches k e × Public p.ttd k w.now quiet e) w.trace (λ e a b. (len e a, b.0, b.1)) (known w base members u)
        (each_both (Reaches k) (Public p.ttd k w.now quiet) (λ e. Reaches k e × Public p.ttd k w.now quiet e) w.trace (λ e a b. (a, b)) (reaches_each p w.now k w.taps w.trace u.waited u.invariant.keeps.inv.last w.trace u.invariant.keeps.inv.entries) public)
      where
        len : (e : Entry) → Known w base members u e → HasLength e
        len (Noise span) a = a.holds.1
        len (Sent r) a = a.holds.some

    by : (b : Bool) → is_initiator x ≡ b → m ≤ quiet + 2 * p.tsl
    by true init =
        ⊎_elim (λ (none : _ ≡ true). absurd (let w : false ≡ true = none in cc))
        (λ (f : (q : ℕ) → Each (EndedBefore p.ttd x.tap x.begin q) w.trace → x.begin ≤ q + (p.tsl + p.lag)).
        let s = f (quiet + p.ttd)
        (each_both (λ e. HasLength e × Reaches k e × Public p.ttd k w.now quiet e) (λ e. FirstAt w.now m (heard_span p.ttd k t.since e)) (EndedBefore p.ttd x.tap x.begin (quiet + p.ttd)) w.trace
        (λ e a b. ended_for c m quiet x late at begun (omega (arith, early, from)) ne e a.0 a.1 a.2 b) over first) in
        let take = fits.take in let order = fits.idle_order in omega (arith, s, at, take, order))
        (way.origin init (omega (arith, at, late)))
    by false none =
        let a = way.answers none in
        let after = a.after in
        let soon = a.soon in
        let some = call.some in
        let in_time = u.flow.reply_in_time in
        let ends = call.end in
        let begins = call.begin in
        let there : Public p.ttd k w.now quiet (Sent call.r) = each_in (Public p.ttd k w.now quiet) (Sent call.r) w.trace public call.inside in
        ⊎_elim (λ (mine : call.r.tap ≡ k). let e = there.0 mine in omega (arith, e, ends, soon, at, in_time))
        (λ (other : call.r.tap ≡ k → ⊥).
        ⊎_elim (λ (new : w.now ≤ call.r.begin + p.ttd). absurd (omega (arith, new, after, begun, some, ends, begins))) (λ (e : call.r.end + p.ttd ≤ quiet). omega (arith, e, ends, soon, at, in_time)) (there.1 other))
        (cases_eq call.r.tap k)

-- ---- in each phase

-- a tap with this phase may hear a begin at a moment, while it is not busy
abbrev pub MayBegin : Params → Station → Phase → ℕ → Type 0
MayBegin p s Offline m = Unit {0}
MayBegin p s PassiveIdle m = Unit {0}
MayBegin p s (Listening doubled) m = ⊥
MayBegin p s (Idle refused) m = m ≤ s.quiet + tto p s.address
MayBegin p s (Claim sent ready) m = ⊥
MayBegin p s (Use asked ready) m = ⊥
MayBegin p s (AwaitData asked retry slot) m = (retry ≡ None) × (m ≤ s.own.end + p.tsl) × (s.own.begin ≤ m)
MayBegin p s (AwaitStatus of slot) m = (m ≤ s.own.end + p.tsl) × (s.own.begin ≤ m)
MayBegin p s (Pass tries ready) m = ⊥
MayBegin p s (Checking tries) m = (m ≤ s.own.end + p.tsl) × (s.own.begin ≤ m)

-- its timer is not over before that
pub may_timer : (p : Params) (s : Station) (m : ℕ) → s.busy ≡ false → MayBegin p s s.phase m → IfSome (timer_of p s) (λ t. m ≤ t)
may_timer p s m still may = subst (λ b. IfSome (if b then None else phase_timer p s s.phase) (λ t. m ≤ t)) (sym still) (by s.phase may)
  where
    by : (ph : Phase) → MayBegin p s ph m → IfSome (phase_timer p s ph) (λ t. m ≤ t)
    by Offline h = tt
    by PassiveIdle h = tt
    by (Listening doubled) h = absurd h
    by (Idle refused) h = h
    by (Claim sent ready) h = tt
    by (Use asked ready) h = tt
    by (AwaitData asked retry slot) h = by_test (λ (o : Option ℕ). IfSome o (λ t. m ≤ t)) slot (Some (s.own.end + p.tsl)) None (λ _. h.1) (λ _. tt)
    by (AwaitStatus of slot) h = by_test (λ (o : Option ℕ). IfSome o (λ t. m ≤ t)) slot (Some (s.own.end + p.tsl)) None (λ _. h.0) (λ _. tt)
    by (Pass tries ready) h = tt
    by (Checking tries) h = h.0

-- a check that something will end is not over before the first begins
doomed_first : (c : Place) (trace : List Entry) (own : Span) (m : ℕ) → IsFirst c trace m → Doomed c trace own → m ≤ own.end + c.p.tsl
doomed_first c trace own m first d =
    ⊎_elim (λ (over : own.end + c.p.tsl < m). absurd (d (each_map (λ e. FirstAt c.now m (heard_span c.p.ttd c.tap c.since e)) (λ e. Spares c.now (own.end + c.p.tsl) (heard_span c.p.ttd c.tap c.since e)) trace
    (λ e f. spares over (heard_span c.p.ttd c.tap c.since e) f) first)))
    (λ (le : m ≤ own.end + c.p.tsl). le) (cases_lt (own.end + c.p.tsl) m)
  where
    spares : own.end + c.p.tsl < m → (o : Option Span) → FirstAt c.now m o → Spares c.now (own.end + c.p.tsl) o
    spares over None f = tt
    spares over (Some y) f = ⊎_elim (λ (a : m ≤ y.begin). inr (omega (arith, a, over))) (λ (b : (y.begin < c.now) × (y.end ≤ c.now)). inl b.0) f

-- ---- what begins

-- the facts of a begin at a running tap that is not busy
pub record BeginAt (w : World) (base : ℕ) (members : List ℕ) (u : Undisturbed w base members) (k : ℕ) (t : Tap) (m : ℕ) : Type 0 where
  pub here : slice_get w.taps k ≡ Some t
  pub running : t.running ≡ true
  pub x : Record
  pub known : Known w base members u (Sent x)
  pub another : x.tap ≡ k → ⊥
  pub late : w.now ≤ m
  pub at : m ≡ x.begin + w.params.ttd
  pub way : OnItsWay w.params base w.now members w.trace u.ring.call x
  pub first : IsFirst (place w.params w.now k t) w.trace m

-- where the call is the tap's own, a reply reaches it, in time, and it waits for that
own_call : (w : World) (base : ℕ) (members : List ℕ) (u : Undisturbed w base members) (k : ℕ) (t : Tap) (m : ℕ) → BeginAt w base members u k t m → u.ring.call.tap ≡ k
    → IsArmed (view w.params t).phase (view w.params t).busy × (m < u.ring.call.end + w.params.tsl) × (wants_reply (brought_by u.ring.call.octets) ≡ true)
own_call w base members u k t m b mine = by (is_initiator b.x) refl
  where
    by : (c : Bool) → is_initiator b.x ≡ c → IsArmed (view w.params t).phase (view w.params t).busy × (m < u.ring.call.end + w.params.tsl) × (wants_reply (brought_by u.ring.call.octets) ≡ true)
    by true init = absurd (b.another (by_caller w base members u b.x b.known init (let some = b.known.holds.some in let l = b.late in let a = b.at in omega (arith, some, l, a)) ∙ mine))
    by false none =
        let a = b.way.answers none in
        let soon = a.soon in
        let in_time = u.flow.reply_in_time in
        let at = b.at in
        let late = b.late in (
          b.known.awaited none (omega (arith, at, late)) t (subst (λ i. slice_get w.taps i ≡ Some t) (sym mine) b.here) b.running,
          omega (arith, soon, at, in_time),
          a.wanted,
        )

-- where the call gives the tap the token, nothing reaches it
taken_quiet : (w : World) (base : ℕ) (members : List ℕ) (u : Undisturbed w base members) (k : ℕ) (t : Tap) (m at : ℕ) → BeginAt w base members u k t m → TakenCall w.params.ttd u.ring.call k t.spec.address at → at ≤ w.now → ⊥
taken_quiet w base members u k t m at b taken over = by (is_initiator b.x) refl
  where
    by : (c : Bool) → is_initiator b.x ≡ c → ⊥
    by false none = offer_wants_none (brought_by u.ring.call.octets) t.spec.address taken.offers (b.way.answers none).wanted
    by true init =
        let some = b.known.holds.some in
        let late = b.late in
        let begins = b.at in
        let ended = taken.heard_at in
        let call = call_stands w base members u in
        let long = call.some in
        ⊎_elim (λ (same : (b.x.tap ≡ u.ring.call.tap) × (b.x.begin ≡ u.ring.call.begin)). omega (arith, same.1, late, begins, ended, over, long))
        (λ (before : (b.x.end ≤ u.ring.call.begin) × ((b.x.end + w.params.ttd ≤ u.ring.call.begin) ⊎ ((b.x.tap ≡ u.ring.call.tap) × _))). omega (arith, before.0, late, begins, ended, over, some, long))
        (order_call w.params.ttd u.invariant.keeps.inv.last u.ring.call b.x (last_call w base members u) (b.known.holds.order init))

-- a token that was taken is over
pub taken_over : (w : World) (base : ℕ) (members : List ℕ) (u : Undisturbed w base members) (k : ℕ) (t : Tap) (at : ℕ) → slice_get w.taps k ≡ Some t → Taken w.params.ttd u.invariant.keeps.inv.last k t.spec.address at → at ≤ w.now
taken_over w base members u k t at here h =
    let inv = u.invariant.keeps.inv in
    let ok = each_in (EntryHolds w.params w.now w.taps w.trace u.waited inv.last) (Sent h.r) w.trace inv.entries (subst (λ o. IfSome o (λ r. In (Sent r) w.trace)) h.is inv.last_in) in
    let heard = h.heard_at in
    ⊎_elim (λ (new : w.now < h.r.end + w.params.ttd). absurd (let wrong : false ≡ true = sym (ap is_whole (ok.pending k t here h.another new)) ∙ h.whole in cc))
    (λ (old : h.r.end + w.params.ttd ≤ w.now). omega (arith, heard, old)) (cases_lt w.now (h.r.end + w.params.ttd))

-- so a tap that is not busy may hear it
pub may_begin : (w : World) (base : ℕ) (members : List ℕ) (u : Undisturbed w base members) (k : ℕ) (t : Tap) (m : ℕ) → BeginAt w base members u k t m → (view w.params t).busy ≡ false → IsOn (view w.params t).phase
    → TapHolds w.params w.now w.trace u.invariant.keeps.inv.last k t → RingTap w.params base members w.taps w.trace u.ring.call k t → MayBegin w.params (view w.params t) (view w.params t).phase m
may_begin w base members u k t m b still on o r = by v.phase refl (subst (λ z. ViewOf c w.trace last v.phase z v.quiet v.own v.reply) still o.view_ok) r.undisturbed
  where
    p : Params
    p = w.params

    c : Place
    c = place p w.now k t

    v : Station
    v = view p t

    last : Option Record
    last = u.invariant.keeps.inv.last

    is : IsCall last u.ring.call
    is = last_call w base members u

    knows : Knows c w.trace v.busy v.quiet v.own
    knows = knows_on c w.trace v.phase v.busy v.quiet v.own on o.knows

    still_knows : Knows c w.trace false v.quiet v.own
    still_knows = subst (λ z. Knows c w.trace z v.quiet v.own) still knows

    after : v.own.begin ≤ m
    after = let a = knows.begun in let l = b.late in omega (arith, a, l)

    -- one that holds the token, by its own call, is armed
    held : (ph : Phase) → v.phase ≡ ph → Held last k v.own → IsArmed ph false × (m ≤ v.own.end + p.tsl)
    held ph e h =
        let hc = held_call last u.ring.call k v.own is h in
        let own = own_call w base members u k t m b hc.by in
        let ends = hc.end in
        let early = own.1 in
        (subst (λ z. IsArmed z false) e (subst (λ z. IsArmed v.phase z) still own.0), omega (arith, ends, early))

    -- one that waits for data does so in its slot
    waiting : (asked : Bool) (retry : Option ℕ) (slot : Bool) → IsArmed (AwaitData asked retry slot) false × (m ≤ v.own.end + p.tsl) → MayBegin p v (AwaitData asked retry slot) m
    waiting asked retry slot a = (a.0.0, a.1, after)

    by : (ph : Phase) → v.phase ≡ ph → ViewOf c w.trace last ph false v.quiet v.own v.reply → IsUndisturbed ph → MayBegin p v ph m
    by Offline e ok un = tt
    by PassiveIdle e ok un = tt
    by (Listening doubled) e ok un = absurd un
    by (Idle refused) e ok un =
        ⊎_elim
        (λ (early : v.quiet < w.now).
        let public = public_known c w.trace v.quiet v.own early still_knows (reaches_each p w.now k w.taps w.trace u.waited last w.trace u.invariant.keeps.inv.entries) in
        let s = soon_after w base members u k t v.quiet m b.x u.ring.from r.since early public b.late b.at b.another b.known b.way b.first in
        omega (arith, s))
        (λ (now_ : w.now ≤ v.quiet). let at = b.at in let begun = b.known.holds.begun in let take = u.invariant.keeps.fits.take in omega (arith, at, begun, now_, take))
        (cases_lt v.quiet w.now)
    by (Claim sent ready) e ok un = absurd un
    by (Use asked ready) e ok un =
        ⊎_elim (λ (h : Held last k v.own). absurd (held (Use asked ready) e h).0)
        (λ (h : Taken p.ttd last k t.spec.address v.quiet × (ready ≡ v.quiet + p.tid1)).
        absurd (taken_quiet w base members u k t m v.quiet b (taken_call p.ttd last u.ring.call k t.spec.address v.quiet is h.0)
        (taken_over w base members u k t v.quiet b.here h.0)))
        ok.4
    by (AwaitData asked retry slot) e ok un = waiting asked retry slot (held (AwaitData asked retry slot) e ok.1)
    by (AwaitStatus of slot) e ok un = let h = held (AwaitStatus of slot) e ok.1 in (h.1, after)
    by (Pass tries ready) e ok un = absurd un
    by (Checking tries) e ok un =
        ⊎_elim
        (λ (h : Offers last k v.own).
        let oc = offers_call last u.ring.call k v.own is h in
        absurd (offer_wants_none (brought_by u.ring.call.octets) oc.to oc.offers (own_call w base members u k t m b oc.by).2))
        (λ (d : Doomed c w.trace v.own). (doomed_first c w.trace v.own m b.first d, after))
        ok.3
