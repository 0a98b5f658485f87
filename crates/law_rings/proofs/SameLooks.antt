-- A ring whose taps look the same stays undisturbed: after a turn that says nothing, a request that is to wait, and a
-- change of the data with which a tap replies.
use Rattle.std.proofs.Common.{◌≡◌, ℕ, ◌+◌, ◌<◌, inl, inr, ⊎_elim, true, List, refl, sym, ap, ◌∙◌, subst, Option, Some, None}
use Rattle.std.specs.Prelude.{slice_get, slice_set, IfSome}
use Rattle.std.proofs.lemmas.Bool.{cases_eq}
use Rattle.std.proofs.lemmas.Option.{same_Some}
use Rattle.pb_timers.specs.Timers.{Params}
use Rattle.law_turn.specs.Phases.{may_initiate}
use Rattle.law_turn.specs.Stations.{Reply}
use Rattle.law_model.specs.Trace.{Entry, Sent, Noise}
use Rattle.law_model.specs.Medium.{Tap}
use Rattle.law_model.specs.World.{World}
use Rattle.law_runs.specs.Initiators.{offered_by}
use Rattle.law_token.specs.Views.{view}
use Rattle.law_token.proofs.bus.Lists.{each_map, get_set_at, get_set_other}
use Rattle.law_rings.specs.Ring.{Call, IsArmed, ArmedAt, IsUndisturbed, TakesPart, IsMember, TellsNotReady, HasAskedFor, IsDue, RingTap, Bearer, HasTaps, IsAwaited, Ring, is_question, brought_by}
use Rattle.law_token.proofs.turn.Last.{set_here}

-- none is to be sent, or both are, at one moment; the second one tells as little as the first one that its sender is ready
abbrev pub AsReply : Option Reply → Option Reply → Type 0
AsReply None None = Unit {0}
AsReply None (Some b) = ⊥
AsReply (Some a) None = ⊥
AsReply (Some a) (Some b) = (b.ready ≡ a.ready) × (TellsNotReady (brought_by a.octets) → TellsNotReady (brought_by b.octets))

as_itself : (o : Option Reply) → AsReply o o
as_itself None = tt
as_itself (Some a) = (refl, λ h. h)

pub as_same : (o r : Option Reply) → r ≡ o → AsReply o r
as_same o r e = subst (AsReply o) (sym e) (as_itself o)

-- two taps that look the same once they have read their marks
pub record LooksAs (p : Params) (t x : Tap) : Type 0 where
  pub running : x.running ≡ t.running
  pub address : x.spec.address ≡ t.spec.address
  pub master : x.spec.master ≡ t.spec.master
  pub since : x.since ≡ t.since
  pub phase : (view p x).phase ≡ (view p t).phase
  pub busy : (view p x).busy ≡ (view p t).busy
  pub las : (view p x).las ≡ (view p t).las
  pub reply : AsReply (view p t).reply (view p x).reply

-- the tap that stood at an index, and the one that stands there
pub record Was (p : Params) (taps : List Tap) (k : ℕ) (x : Tap) : Type 0 where
  pub t : Tap
  pub here : slice_get taps k ≡ Some t
  pub looks : LooksAs p t x

pub record Is (p : Params) (taps : List Tap) (k : ℕ) (t : Tap) : Type 0 where
  pub x : Tap
  pub here : slice_get taps k ≡ Some x
  pub looks : LooksAs p t x

-- taps that all look the same
pub record AllLook (p : Params) (taps taps' : List Tap) : Type 0 where
  pub back : (k : ℕ) (x : Tap) → slice_get taps' k ≡ Some x → Was p taps k x
  pub forth : (k : ℕ) (t : Tap) → slice_get taps k ≡ Some t → Is p taps' k t

-- as itself
pub same_look : (p : Params) (t : Tap) → LooksAs p t t
same_look p t = record { running = refl; address = refl; master = refl; since = refl; phase = refl; busy = refl; las = refl; reply = as_itself (view p t).reply }

-- where one tap is set
pub set_looks : (p : Params) (taps : List Tap) (k : ℕ) (t x : Tap) → slice_get taps k ≡ Some t → LooksAs p t x → AllLook p taps (slice_set taps k x)
set_looks p taps k t x here looks = record { back = back; forth = forth }
  where
    back : (j : ℕ) (y : Tap) → slice_get (slice_set taps k x) j ≡ Some y → Was p taps j y
    back j y at = ⊎_elim
        (λ (e : k ≡ j). let same : y ≡ x = get_set_at taps k x y (subst (λ i. slice_get (slice_set taps k x) i ≡ Some y) (sym e) at) in
        record { t = t; here = subst (λ i. slice_get taps i ≡ Some t) e here; looks = subst (LooksAs p t) (sym same) looks })
        (λ (ne : k ≡ j → ⊥). record { t = y; here = sym (get_set_other taps k j x ne) ∙ at; looks = same_look p y }) (cases_eq k j)

    forth : (j : ℕ) (y : Tap) → slice_get taps j ≡ Some y → Is p (slice_set taps k x) j y
    forth j y at = ⊎_elim
        (λ (e : k ≡ j). let same : t ≡ y = same_Some t y (sym here ∙ subst (λ i. slice_get taps i ≡ Some y) (sym e) at) in
        record { x = x; here = subst (λ i. slice_get (slice_set taps k x) i ≡ Some x) e (set_here taps k t x here); looks = subst (λ z. LooksAs p z x) same looks })
        (λ (ne : k ≡ j → ⊥). record { x = y; here = get_set_other taps k j x ne ∙ at; looks = same_look p y }) (cases_eq k j)

-- ---- what holds of taps that look the same

-- one that waits for a reply
pub armed_looks : (p : Params) (taps taps' : List Tap) (k : ℕ) → AllLook p taps taps' → ArmedAt p taps k → ArmedAt p taps' k
armed_looks p taps taps' k all armed x here running =
    let b = all.back k x here in
    subst (λ z. IsArmed z (view p x).busy) (sym b.looks.phase) (subst (λ z. IsArmed (view p b.t).phase z) (sym b.looks.busy) (armed b.t b.here (sym b.looks.running ∙ running)))

-- a reply that is due
due_looks : (p : Params) (base : ℕ) (taps taps' : List Tap) (trace : List Entry) (call : Call) (k : ℕ) (t x : Tap) (a b : Reply) → AllLook p taps taps' → LooksAs p t x → AsReply (Some a) (Some b) → IsDue p base taps trace call k t a
    → IsDue p base taps' trace call k x b
due_looks p base taps taps' trace call k t x a b all looks alike d = record {
  since = d.since;
  another = d.another;
  asked = d.asked ∙ ap (λ n. Some n) (sym looks.address);
  wanted = d.wanted;
  ready = alike.0 ∙ d.ready;
  told = λ question. alike.1 (d.told question);
  last = d.last;
  armed = armed_looks p taps taps' call.tap all d.armed;
}

-- a tap of the ring
pub tap_looks : (p : Params) (base : ℕ) (members : List ℕ) (taps taps' : List Tap) (trace : List Entry) (call : Call) (k : ℕ) (t x : Tap) → AllLook p taps taps' → LooksAs p t x → RingTap p base members taps trace call k t
    → RingTap p base members taps' trace call k x
tap_looks p base members taps taps' trace call k t x all looks r = record {
  undisturbed = subst IsUndisturbed (sym looks.phase) r.undisturbed;
  since = subst (λ n. n < base) (sym looks.since) r.since;
  active = λ master passive. r.active (sym looks.master ∙ master) (sym looks.phase ∙ passive);
  master = λ part. looks.master ∙ r.master (subst TakesPart looks.phase part);
  member = λ part. subst (λ z. IsMember members x.spec.address z) (sym looks.las) (subst (λ n. IsMember members n (view p t).las) (sym looks.address) (r.member (subst TakesPart looks.phase part)));
  replies = due (view p t).reply (view p x).reply looks.reply r.replies;
  asked = λ from mine. subst (λ z. HasAskedFor z (is_question (brought_by call.octets))) (sym looks.phase) (r.asked from mine);
}
  where
    due : (o r : Option Reply) → AsReply o r → IfSome o (λ a. IsDue p base taps trace call k t a) → IfSome r (λ b. IsDue p base taps' trace call k x b)
    due None None alike h = tt
    due None (Some b) alike h = absurd alike
    due (Some a) None alike h = tt
    due (Some a) (Some b) alike h = due_looks p base taps taps' trace call k t x a b all looks alike h

-- who bears the token
pub bearer_looks : (p : Params) (now : ℕ) (taps taps' : List Tap) (call : Call) → AllLook p taps taps' → Bearer p now taps call → Bearer p now taps' call
bearer_looks p now taps taps' call all b =
    let i = all.forth b.tap b.t b.here in
    record {
      tap = b.tap;
      t = i.x;
      here = i.here;
      running = i.looks.running ∙ b.running;
      part = subst TakesPart (sym i.looks.phase) b.part;
      bears = ⊎_elim (λ (may : may_initiate (view p b.t).phase ≡ true). inl (ap may_initiate i.looks.phase ∙ may))
          (λ (c : (offered_by (brought_by call.octets) ≡ Some b.t.spec.address) × (now < call.end + p.ttd) × (call.tap ≡ b.tap → ⊥)). inr (c.0 ∙ ap (λ n. Some n) (sym i.looks.address), c.1, c.2)) b.bears;
    }

-- the taps of the members
pub members_look : (p : Params) (members : List ℕ) (taps taps' : List Tap) → AllLook p taps taps' → HasTaps p members taps → HasTaps p members taps'
members_look p members taps taps' all has a in_it =
    let m = has a in_it in
    let i = all.forth m.tap m.t m.here in
    record { tap = m.tap; t = i.x; here = i.here; running = i.looks.running ∙ m.running; part = subst TakesPart (sym i.looks.phase) m.part; address = i.looks.address ∙ m.address }

-- so the ring stays
pub ring_looks : (w : World) (base : ℕ) (members : List ℕ) (taps' : List Tap) → AllLook w.params w.taps taps' → Ring w base members → Ring (record w { taps = taps' }) base members
ring_looks w base members taps' all g = record {
  call = g.call;
  is_call = g.is_call;
  from = g.from;
  ascends = g.ascends;
  all = members_look w.params members w.taps taps' all g.all;
  bearer = bearer_looks w.params w.now w.taps taps' g.call all g.bearer;
  taps = λ k x here running. let b = all.back k x here in tap_looks w.params base members w.taps taps' w.trace g.call k b.t x all b.looks (g.taps k b.t b.here (sym b.looks.running ∙ running));
  entries = g.entries;
  replies = g.replies;
  awaited = each_map (IsAwaited w.params w.now w.taps g.call) (IsAwaited w.params w.now taps' g.call) w.trace awaits g.awaited;
  request = λ wants air. armed_looks w.params w.taps taps' g.call.tap all (g.request wants air);
}
  where
    awaits : (e : Entry) → IsAwaited w.params w.now w.taps g.call e → IsAwaited w.params w.now taps' g.call e
    awaits (Noise span) h = tt
    awaits (Sent x) h = λ none late. armed_looks w.params w.taps taps' g.call.tap all (h none late)

-- the call is the same
pub ring_looks_call : (w : World) (base : ℕ) (members : List ℕ) (taps' : List Tap) (all : AllLook w.params w.taps taps') (g : Ring w base members) → (ring_looks w base members taps' all g).call ≡ g.call
unfolding ring_looks
ring_looks_call w base members taps' all g = refl
