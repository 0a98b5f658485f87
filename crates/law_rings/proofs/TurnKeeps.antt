-- A turn that says nothing, or a reply, keeps a ring undisturbed.
use Rattle.std.proofs.Common.{◌≡◌, ℕ, ◌+◌, ◌<◌, ◌≤◌, inl, inr, ⊎_elim, Bool, true, false, ◌&&◌, List, [], map, refl, sym, ap, ◌∙◌, subst, arith, Option, Some, None}
use Rattle.std.specs.Prelude.{◌%◌, slice_get, slice_set, IfSome}
use Rattle.std.proofs.lemmas.Bool.{cases_eq}
use Rattle.std.proofs.lemmas.Option.{same_Some}
use Rattle.pb_telegram.specs.Faults.{fault_of}
use Rattle.pb_telegram.specs.declared.chars.RxChar.TheVariants.{Good}
use Rattle.pb_timers.specs.Timers.{Params}
use Rattle.pb_cycles.specs.Messages.{has_bit}
use Rattle.pb_cycles.specs.Requests.{asked_by}
use Rattle.law_turn.specs.Arrivals.{Arrival, Token, Framed, Acknowledgement, NoTelegram}
use Rattle.law_turn.specs.Laws.{IsReply}
use Rattle.law_turn.specs.Phases.{Phase, Offline, PassiveIdle, Listening, Idle, Claim, Use, AwaitData, AwaitStatus, Pass, Checking, may_initiate}
use Rattle.law_turn.specs.Stations.{Station, Reply}
use Rattle.law_turn.proofs.Initiating.{reply-after_marks}
use Rattle.law_model.specs.Trace.{Record, Entry, Sent, Noise, with_entry}
use Rattle.law_model.specs.Medium.{Tap}
use Rattle.law_model.specs.World.{World}
use Rattle.law_model.specs.Step.{sending}
use Rattle.law_runs.specs.Initiators.{telegram_of, initiates, is_initiator, offered_by, last_initiator}
use Rattle.law_runs.specs.Premises.{Waited}
use Rattle.law_token.specs.Views.{view}
use Rattle.law_token.specs.Entries.{EntryHolds, Origin, EndedBefore}
use Rattle.law_token.specs.Invariant.{Invariant}
use Rattle.law_token.proofs.bus.Claims.{one_address}
use Rattle.law_token.proofs.bus.Lists.{each_in, each_map, each_with, each_without, each_both, get_set_other, at_set}
use Rattle.law_token.proofs.turn.Actions.{IsWaiting}
use Rattle.law_token.proofs.turn.Kept.{turned}
use Rattle.law_token.proofs.turn.Meaning.{reply_means}
use Rattle.law_token.proofs.turn.Trace.{last_reply, in_new}
use Rattle.law_live.specs.Flow.{BeganBefore}
use Rattle.law_rings.specs.Ring.{Call, IsCall, OnItsWay, InRing, IsPastReply, IsUndisturbed, TakesPart, IsMember, HasAskedFor, ArmedAt, IsDue, RingTap, Bearer, MemberAt, HasTaps, IsAwaited, Ring, is_answered_by, wants_reply, is_question, brought_by}
use Rattle.law_rings.proofs.ActInRing.{HasReplied}
use Rattle.law_rings.proofs.NotInRing.{reply_late}
use Rattle.law_rings.proofs.Reaching.{Undisturbed, Known, known}
use Rattle.law_rings.proofs.SameLooks.{as_same, set_looks, ring_looks, ring_looks_call}
use Rattle.law_rings.proofs.TapsPass.{RunsAt, ring_at}
use Rattle.law_token.proofs.turn.Last.{set_here}

-- ---- a turn that says nothing

-- a turn that only reads
pub rest_keeps : (w : World) (base : ℕ) (members : List ℕ) (u : Undisturbed w base members) (k : ℕ) (t : Tap) (s' : Station) → RunsAt w k t → s' ≡ view w.params t → Ring (turned w k t s' None) base members
rest_keeps w base members u k t s' at same =
    let x : Tap = record t { station = s'; marks = [] } in
    ring_looks w base members (slice_set w.taps k x)
    (set_looks w.params w.taps k t x at.here
    (record { running = refl; address = refl; master = refl; since = refl; phase = ap (λ (z : Station). z.phase) same; busy = ap (λ (z : Station). z.busy) same; las = ap (λ (z : Station). z.las) same; reply = as_same (view w.params t).reply (view w.params x).reply (ap (λ (z : Station). z.reply) same) })) u.ring

-- its call is the same
pub rest_keeps_call : (w : World) (base : ℕ) (members : List ℕ) (u : Undisturbed w base members) (k : ℕ) (t : Tap) (s' : Station) (at : RunsAt w k t) (same : s' ≡ view w.params t) → (rest_keeps w base members u k t s' at same).call ≡ u.ring.call
unfolding rest_keeps
rest_keeps_call w base members u k t s' at same = ring_looks_call w base members (slice_set w.taps k (record t { station = s'; marks = [] })) _ u.ring

-- ---- the taps after a turn

-- one that waits at another place still does
pub armed_other : (p : Params) (taps : List Tap) (k c : ℕ) (x : Tap) → (k ≡ c → ⊥) → ArmedAt p taps c → ArmedAt p (slice_set taps k x) c
armed_other p taps k c x ne armed y here running = armed y (sym (get_set_other taps k c x ne) ∙ here) running

-- the taps of the members, where the one that acted still takes part
pub members_set : (p : Params) (members : List ℕ) (taps : List Tap) (k : ℕ) (t : Tap) (s' : Station) → slice_get taps k ≡ Some t → (TakesPart (view p t).phase → TakesPart s'.phase) → HasTaps p members taps → HasTaps p members (slice_set taps k (record t { station = s'; marks = [] }))
members_set p members taps k t s' here part has a in_it = ⊎_elim mine other (cases_eq k m.tap)
  where
    m : MemberAt p taps a
    m = has a in_it

    x : Tap
    x = record t { station = s'; marks = [] }

    mine : k ≡ m.tap → MemberAt p (slice_set taps k x) a
    mine e =
        let same : t ≡ m.t = same_Some t m.t (sym here ∙ subst (λ i. slice_get taps i ≡ Some m.t) (sym e) m.here) in
        record {
          tap = k;
          t = x;
          here = set_here taps k t x here;
          running = ap (λ (z : Tap). z.running) same ∙ m.running;
          part = part (subst (λ (z : Tap). TakesPart (view p z).phase) (sym same) m.part);
          address = ap (λ (z : Tap). z.spec.address) same ∙ m.address;
        }

    other : (k ≡ m.tap → ⊥) → MemberAt p (slice_set taps k x) a
    other ne = record { tap = m.tap; t = m.t; here = get_set_other taps k m.tap x ne ∙ m.here; running = m.running; part = m.part; address = m.address }

-- another tap, if it keeps no reply
pub other_tap : (p : Params) (base : ℕ) (members : List ℕ) (taps taps' : List Tap) (trace trace' : List Entry) (call call' : Call) (j : ℕ) (y : Tap) → RingTap p base members taps trace call j y → (view p y).reply ≡ None
    → (base ≤ call'.begin → call'.tap ≡ j → HasAskedFor (view p y).phase (is_question (brought_by call'.octets))) → RingTap p base members taps' trace' call' j y
other_tap p base members taps taps' trace trace' call call' j y r none asked = record {
  undisturbed = r.undisturbed;
  since = r.since;
  active = r.active;
  master = r.master;
  member = r.member;
  replies = subst (λ o. IfSome o (λ a. IsDue p base taps' trace' call' j y a)) (sym none) tt;
  asked = asked;
}

-- where a telegram came from outlasts a new entry
pub origin_with : (p : Params) (x : Entry) (trace : List Entry) (y : Record) → Origin p trace [] y → Origin p (with_entry x trace) [] y
origin_with p x trace y (inl none) = inl none
origin_with p x trace y (inr f) = inr (λ q all. f q (each_without (EndedBefore p.ttd y.tap y.begin q) x trace all).1)

-- what wants a reply is an initiator telegram
pub wants_initiates : (a : Arrival) → wants_reply a ≡ true → initiates a ≡ true
wants_initiates (Token da sa) e = refl
wants_initiates (Framed f) e = by (has_bit f.fc 6) e
  where
    by : (b : Bool) → (b && is_answered_by (asked_by (f.fc % 16))) ≡ true → b ≡ true
    by true e = refl
    by false e = e
wants_initiates Acknowledgement e = e
wants_initiates NoTelegram e = e

-- ---- a turn that says a reply

-- a station that waits is no holder
pub waits_not : (ph : Phase) → IsWaiting ph → may_initiate ph ≡ false
waits_not PassiveIdle h = refl
waits_not (Listening doubled) h = refl
waits_not (Idle refused) h = refl
waits_not Offline h = absurd h
waits_not (Claim sent ready) h = absurd h
waits_not (Use asked ready) h = absurd h
waits_not (AwaitData asked retry slot) h = absurd h
waits_not (AwaitStatus of slot) h = absurd h
waits_not (Pass tries ready) h = absurd h
waits_not (Checking tries) h = absurd h

-- the reply of a tap, that is due
pub record RepliesAt (w : World) (k : ℕ) (t : Tap) (a : Reply) (s' : Station) : Type 0 where
  pub at : RunsAt w k t
  pub keeps : (view w.params t).reply ≡ Some a
  pub waits : IsWaiting (view w.params t).phase
  pub ready : a.ready ≤ w.now
  pub after : HasReplied (view w.params t) s'

-- a turn that replies
pub reply_keeps : (w : World) (base : ℕ) (members : List ℕ) (u : Undisturbed w base members) (k : ℕ) (t : Tap) (a : Reply) (s' : Station) (waited' : List Waited) → RepliesAt w k t a s' → Invariant (turned w k t s' (Some a.octets)) waited'
    → Ring (turned w k t s' (Some a.octets)) base members
reply_keeps w base members u k t a s' waited' r i' = record {
  call = call';
  is_call = subst (λ o. IsCall o call') (sym (last_reply x w.now None w.trace no_init)) (answered_call (last_initiator w.now w.trace) u.ring.is_call);
  from = u.ring.from;
  ascends = u.ring.ascends;
  all = members_set p members w.taps k t s' r.at.here (λ part. subst TakesPart (sym r.after.phase) part) u.ring.all;
  bearer = bearer';
  taps = at_set (λ j y. y.running ≡ true → RingTap p base members taps' trace' call' j y) w.taps k t' (λ _. own) (λ j y ne here run. others j y ne (record { here = here; running = run }));
  entries = each_with (InRing p base w.now members trace' call') (Sent x) w.trace (λ _. new) (each_both (Known w base members u) (BeganBefore (u.ring.call.end + p.ttd)) (InRing p base w.now members trace' call') w.trace old (known w base members u) d.last);
  replies = each_with (IsPastReply p.ttd w.now call') (Sent x) w.trace (λ air _. absurd (omega (arith, air, over))) (each_map (Known w base members u) (IsPastReply p.ttd w.now call') w.trace past (known w base members u));
  awaited = each_with (IsAwaited p w.now taps' call') (Sent x) w.trace (λ _ _. armed') (each_map (Known w base members u) (IsAwaited p w.now taps' call') w.trace awaits (known w base members u));
  request = λ wants air. absurd (omega (arith, air, over));
}
  where
    p : Params
    p = w.params

    v : Station
    v = view p t

    x : Record
    x = sending k a.octets w.now w.taps

    t' : Tap
    t' = record t { station = s'; marks = [] }

    taps' : List Tap
    taps' = slice_set w.taps k t'

    trace' : List Entry
    trace' = with_entry (Sent x) w.trace

    call' : Call
    call' = record u.ring.call { answered = w.now }

    rt : RingTap p base members w.taps w.trace u.ring.call k t
    rt = ring_at w base members u k t r.at

    d : IsDue p base w.taps w.trace u.ring.call k t a
    d = subst (λ o. IfSome o (λ a. IsDue p base w.taps w.trace u.ring.call k t a)) r.keeps rt.replies

    over : u.ring.call.end + p.ttd ≤ w.now
    over = let e = d.ready in let h = r.ready in omega (arith, e, h)

    armed' : ArmedAt p taps' u.ring.call.tap
    armed' = armed_other p w.taps k u.ring.call.tap t' (λ e. d.another (sym e)) d.armed

    answered_call : (o : Option Record) → IsCall o u.ring.call → IsCall o call'
    answered_call None h = h
    answered_call (Some z) h = h

    good : fault_of (map Good a.octets) ≡ None
    good = (each_in (EntryHolds p w.now taps' trace' waited' i'.keeps.inv.last) (Sent x) trace' i'.keeps.inv.entries (in_new (Sent x) w.trace)).spelled

    no_init : is_initiator x ≡ false
    no_init =
        let sayable = (u.invariant.settled.stays k t r.at.here).sayable in
        let is : IsReply a.octets = subst (λ z. IfSome z (λ r. IsReply r.octets)) r.keeps (reply-after_marks p t.station t.marks sayable).0 in
        reply_means x is.no_initiator good

    no_other : (j : ℕ) (y : Tap) → (k ≡ j → ⊥) → RunsAt w j y → (o : Option Reply) → (view p y).reply ≡ o → o ≡ None
    no_other j y ne there None e = refl
    no_other j y ne there (Some b) e =
        let g = subst (λ z. IfSome z (λ a. IsDue p base w.taps w.trace u.ring.call j y a)) e (ring_at w base members u j y there).replies in
        absurd (ne (one_address w.taps k j t y u.invariant.keeps.inv.distinct r.at.here there.here r.at.running there.running (same_Some t.spec.address y.spec.address (sym d.asked ∙ g.asked))))

    own : RingTap p base members taps' trace' call' k t'
    own = record {
      undisturbed = subst IsUndisturbed (sym r.after.phase) rt.undisturbed;
      since = rt.since;
      active = λ master passive. rt.active master (sym r.after.phase ∙ passive);
      master = λ part. rt.master (subst TakesPart r.after.phase part);
      member = λ part. subst (λ z. IsMember members t.spec.address z) (sym r.after.las) (rt.member (subst TakesPart r.after.phase part));
      replies = subst (λ o. IfSome o (λ b. IsDue p base taps' trace' call' k t' b)) (sym r.after.reply) tt;
      asked = λ from mine. absurd (d.another mine);
    }

    others : (j : ℕ) (y : Tap) → (k ≡ j → ⊥) → RunsAt w j y → RingTap p base members taps' trace' call' j y
    others j y ne there =
        let h = ring_at w base members u j y there in
        other_tap p base members w.taps taps' w.trace trace' u.ring.call call' j y h (no_other j y ne there (view p y).reply refl) h.asked

    bearer' : Bearer p w.now taps' call'
    bearer' = ⊎_elim mine other (cases_eq k b.tap)
      where
        b : Bearer p w.now w.taps u.ring.call
        b = u.ring.bearer

        mine : k ≡ b.tap → Bearer p w.now taps' call'
        mine e =
            let same : t ≡ b.t = same_Some t b.t (sym r.at.here ∙ subst (λ i. slice_get w.taps i ≡ Some b.t) (sym e) b.here) in
            absurd (⊎_elim (λ (may : may_initiate (view p b.t).phase ≡ true). let wrong : false ≡ true = sym (waits_not v.phase r.waits) ∙ ap (λ (z : Tap). may_initiate (view p z).phase) same ∙ may in cc)
            (λ (air : (offered_by (brought_by u.ring.call.octets) ≡ Some b.t.spec.address) × (w.now < u.ring.call.end + p.ttd) × (u.ring.call.tap ≡ b.tap → ⊥)). let n = air.1 in omega (arith, n, over)) b.bears)

        other : (k ≡ b.tap → ⊥) → Bearer p w.now taps' call'
        other ne = record { tap = b.tap; t = b.t; here = get_set_other w.taps k b.tap t' ne ∙ b.here; running = b.running; part = b.part; bears = b.bears }

    new : OnItsWay p base w.now members trace' call' x
    new = record {
      since = u.ring.from;
      undamaged = refl;
      full = refl;
      passes = λ da sa e. absurd (let wrong : true ≡ false = sym (ap initiates e) ∙ no_init in cc);
      origin = λ init. absurd (let wrong : true ≡ false = sym init ∙ no_init in cc);
      single = λ wants. absurd (let wrong : true ≡ false = sym (wants_initiates (telegram_of x) wants) ∙ no_init in cc);
      answers = λ none. record {
        since = d.since;
        another = λ mine. d.another (sym mine);
        after = over;
        soon = let late = reply_late w base members u k t a r.at r.keeps in let e = d.ready in omega (arith, late, e);
        at = refl;
        wanted = d.wanted;
        told = d.told;
      };
    }

    old : (e : Entry) → Known w base members u e → BeganBefore (u.ring.call.end + p.ttd) e → InRing p base w.now members trace' call' e
    old (Noise span) h b = h.ring
    old (Sent y) h b = λ air. let o = h.ring air in record {
      since = o.since;
      undamaged = o.undamaged;
      full = o.full;
      passes = o.passes;
      origin = λ init late. origin_with p (Sent x) w.trace y (o.origin init late);
      single = o.single;
      answers = λ none. absurd (let after = (o.answers none).after in omega (arith, after, b));
    }

    past : (e : Entry) → Known w base members u e → IsPastReply p.ttd w.now call' e
    past (Noise span) h = tt
    past (Sent y) h = λ air none. absurd (omega (arith, air, over))

    awaits : (e : Entry) → Known w base members u e → IsAwaited p w.now taps' call' e
    awaits (Noise span) h = tt
    awaits (Sent y) h = λ none late. armed'

-- its call is the same, but that it is answered
pub reply_keeps_call : (w : World) (base : ℕ) (members : List ℕ) (u : Undisturbed w base members) (k : ℕ) (t : Tap) (a : Reply) (s' : Station) (waited' : List Waited) (r : RepliesAt w k t a s') (i' : Invariant (turned w k t s' (Some a.octets)) waited')
    → (reply_keeps w base members u k t a s' waited' r i').call ≡ record u.ring.call { answered = w.now }
unfolding reply_keeps
reply_keeps_call w base members u k t a s' waited' r i' = refl
