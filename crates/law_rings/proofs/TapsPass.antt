-- What a pass leaves of the taps of an undisturbed ring.
use Rattle.std.proofs.Common.{◌≡◌, ℕ, ◌+◌, ◌<◌, ◌≤◌, ◌⊎◌, inl, inr, ⊎_elim, Bool, true, false, if◌then◌else◌, List, [], refl, sym, ap, ◌∙◌, subst, arith, Option, Some, None}
use Rattle.std.specs.Prelude.{slice_get, IfSome}
use Rattle.std.proofs.lemmas.Bool.{cases_lt}
use Rattle.pb_timers.specs.Timers.{Params}
use Rattle.law_turn.specs.Spans.{Span}
use Rattle.law_turn.specs.Arrivals.{Arrival, arrival_of}
use Rattle.law_turn.specs.Phases.{Phase, Offline, PassiveIdle, Listening, Idle, Claim, Use, AwaitData, AwaitStatus, Pass, Checking, may_initiate}
use Rattle.law_turn.specs.Stations.{Station}
use Rattle.law_turn.specs.Hearing.{begun, ended}
use Rattle.law_turn.specs.Turns.{after_marks}
use Rattle.law_turn.proofs.Addresses as addresses
use Rattle.law_model.specs.Trace.{Record, Entry, Sent, Noise}
use Rattle.law_model.specs.Medium.{Tap, sensed, burst_characters, marks_between, new_marks}
use Rattle.law_model.specs.World.{World, next_end_of}
use Rattle.law_model.specs.Step.{is_past, told}
use Rattle.law_model.proofs.Window.{EachSpan, Solid, NoBegin}
use Rattle.law_runs.specs.Initiators.{is_initiator}
use Rattle.law_token.specs.Lists.{Each}
use Rattle.law_token.specs.Places.{heard_span}
use Rattle.law_token.specs.Views.{ViewOf, view, place, TapHolds, IsOn}
use Rattle.law_token.proofs.bus.Lists.{each_map, each_both}
use Rattle.law_token.proofs.bus.Spans.{to_spans}
use Rattle.law_token.proofs.bus.Live.{on_or_off}
use Rattle.law_token.proofs.pass.Brings.{HasLength, solid_sensed}
use Rattle.law_token.proofs.pass.Taps.{append_marks, offline_after}
use Rattle.law_token.proofs.pass.AllTaps.{told_at}
use Rattle.law_rings.specs.Ring.{IsArmed, ArmedAt, RingTap, is_question, brought_by}
use Rattle.law_rings.proofs.Calls.{held_call}
use Rattle.law_rings.proofs.Reaching.{reaches_as, Undisturbed, last_call, Known, known, by_caller}
use Rattle.law_rings.proofs.HearInRing.{IsHearing}
use Rattle.law_rings.proofs.PassOfTime.{PassOf, HearsNothing, HearsBegin, HearsEnd, pass_of}
use Rattle.law_rings.proofs.Whole.{arrives}
use Rattle.law_rings.proofs.TapPass.{BegunAs, begun_as, status_before, status_asked, no_reply_begun, busy_reply, busy_hears, held_hears, held_begun, may_end, TapAfter, same_after, begun_after, ended_after}

-- ---- a pass

-- time passes to a moment, no further than the next end
pub record Passes (w : World) (base : ℕ) (members : List ℕ) (to : ℕ) : Type 0 where
  pub u : Undisturbed w base members
  pub later : w.now < to
  pub past : is_past (next_end_of w.params.ttd w.now w.trace) to ≡ false

-- by the invariant
lengths : (w : World) (base : ℕ) (members : List ℕ) (u : Undisturbed w base members) → Each HasLength w.trace
lengths w base members u = each_map (Known w base members u) HasLength w.trace len (known w base members u)
  where
    len : (e : Entry) → Known w base members u e → HasLength e
    len (Noise span) a = a.holds.1
    len (Sent x) a = a.holds.some

-- what reaches a tap is there as a whole
pub solid_at : (w : World) (base : ℕ) (members : List ℕ) (to : ℕ) (q : Passes w base members to) (k since : ℕ) → EachSpan (Solid w.now to) (sensed w.params.ttd k since w.trace)
solid_at w base members to q k since = solid_sensed w.params.ttd k since w.now to w.trace (lengths w base members q.u) q.past

-- ---- a running tap

pub record RunsAt (w : World) (k : ℕ) (t : Tap) : Type 0 where
  pub here : slice_get w.taps k ≡ Some t
  pub running : t.running ≡ true

-- its view after the pass
abbrev pub then_view : World → (k to : ℕ) → Tap → Station
then_view w k to t = after_marks w.params (view w.params t) (marks_between w.params.ttd k t w.trace w.now to)

abbrev pub then_arrival : World → (k to : ℕ) → Tap → Arrival
then_arrival w k to t = arrival_of (burst_characters w.params.ttd k t w.trace to)

-- the invariant of a tap
pub holds_at : (w : World) (base : ℕ) (members : List ℕ) (u : Undisturbed w base members) (k : ℕ) (t : Tap) → RunsAt w k t → TapHolds w.params w.now w.trace u.invariant.keeps.inv.last k t
holds_at w base members u k t at = u.invariant.keeps.inv.taps k t at.here at.running

-- and that of a tap of the ring
pub ring_at : (w : World) (base : ℕ) (members : List ℕ) (u : Undisturbed w base members) (k : ℕ) (t : Tap) → RunsAt w k t → RingTap w.params base members w.taps w.trace u.ring.call k t
ring_at w base members u k t at = u.ring.taps k t at.here at.running

-- the address of a view
pub view_address : (w : World) (base : ℕ) (members : List ℕ) (u : Undisturbed w base members) (k : ℕ) (t : Tap) → RunsAt w k t → (view w.params t).address ≡ t.spec.address
view_address w base members u k t at = addresses.marks w.params t.station t.marks ∙ (holds_at w base members u k t at).address

-- how it reads the pass
pub reads_pass : (w : World) (base : ℕ) (members : List ℕ) (to : ℕ) (q : Passes w base members to) (k : ℕ) (t : Tap) → RunsAt w k t → IsOn (view w.params t).phase
    → PassOf w.params w.now to (sensed w.params.ttd k t.since w.trace) (then_arrival w k to t) (view w.params t) (then_view w k to t)
reads_pass w base members to q k t at on =
    pass_of w base members q.u k to t at.here at.running q.later (solid_at w base members to q k t.since) on (holds_at w base members q.u k t at) (ring_at w base members q.u k t at)

-- what it becomes
pub tap_after : (w : World) (base : ℕ) (members : List ℕ) (to : ℕ) (q : Passes w base members to) (k : ℕ) (t : Tap) → RunsAt w k t → TapAfter w.params members t.spec.address to (then_arrival w k to t) (view w.params t) (then_view w k to t)
tap_after w base members to q k t at = ⊎_elim off on (on_or_off (view w.params t).phase)
  where
    p : Params
    p = w.params

    v : Station
    v = view p t

    v' : Station
    v' = then_view w k to t

    a : Arrival
    a = then_arrival w k to t

    o : TapHolds p w.now w.trace q.u.invariant.keeps.inv.last k t
    o = holds_at w base members q.u k t at

    r : RingTap p base members w.taps w.trace q.u.ring.call k t
    r = ring_at w base members q.u k t at

    off : v.phase ≡ Offline → TapAfter p members t.spec.address to a v v'
    off e = same_after p base members w.taps w.trace q.u.ring.call k to t a v' r (offline_after p v (marks_between p.ttd k t w.trace w.now to) e)

    after : IsOn v.phase → PassOf p w.now to (sensed p.ttd k t.since w.trace) a v v' → TapAfter p members t.spec.address to a v v'
    after on (HearsNothing e none open_) = same_after p base members w.taps w.trace q.u.ring.call k to t a v' r e
    after on (HearsBegin m low high still may e some open_) =
        subst (λ z. TapAfter p members t.spec.address to a v z) (sym e) (begun_after p base members w.taps w.trace q.u.ring.call k to m t a r on may o.silent.in_place)
    after on (HearsEnd s busy (inl same) e closed) = subst (λ z. TapAfter p members t.spec.address to a v z) (sym (e ∙ ap (λ z. ended p z to a) same)) here
      where
        busy_is : v.busy ≡ true
        busy_is = ap (λ (z : Station). z.busy) (sym same) ∙ busy

        ok : ViewOf (place p w.now k t) w.trace q.u.invariant.keeps.inv.last v.phase true v.quiet v.own v.reply
        ok = subst (λ z. ViewOf (place p w.now k t) w.trace q.u.invariant.keeps.inv.last v.phase z v.quiet v.own v.reply) busy_is o.view_ok

        hears : IsHearing v.phase ⊎ (v.phase ≡ PassiveIdle)
        hears = busy_hears (place p w.now k t) w.trace q.u.invariant.keeps.inv.last v.phase v.quiet v.own v.reply ok r.undisturbed on

        mine : may_initiate v.phase ≡ true → q.u.ring.call.tap ≡ k
        mine i = ⊎_elim
            (λ (h : IsHearing v.phase). (held_call q.u.invariant.keeps.inv.last q.u.ring.call k v.own (last_call w base members q.u) (held_hears (place p w.now k t) w.trace q.u.invariant.keeps.inv.last v.phase true v.quiet v.own v.reply ok h i)).by)
            (λ (ph : v.phase ≡ PassiveIdle). absurd (let wrong : false ≡ true = ap may_initiate (sym ph) ∙ i in cc)) hears

        here : TapAfter p members t.spec.address to a v (ended p v to a)
        here = ended_after p members t.spec.address to a v v q.u.ring.ascends hears (busy_reply (place p w.now k t) w.trace q.u.invariant.keeps.inv.last v.phase v.quiet v.own v.reply ok o.silent.in_place) refl
            (view_address w base members q.u k t at) (λ x. x) (λ x. x) (λ x. x) (λ i. i) refl (λ z h. h) r.member
            (may_end w base members q.u k to v.phase a q.later mine
            (λ of slot e. let i : may_initiate v.phase ≡ true = ap may_initiate e in (i, λ from. status_asked v.phase of slot e (is_question (brought_by q.u.ring.call.octets)) (r.asked from (mine i)))) (arrives w base members q.u k to t q.later))
    after on (HearsEnd s busy (inr x) e closed) = subst (λ z. TapAfter p members t.spec.address to a v z) (sym (e ∙ ap (λ z. ended p z to a) x.3)) here
      where
        y : Station
        y = begun v x.0

        b : BegunAs v.phase y.phase
        b = begun_as p v v.phase x.0 x.2

        mine : may_initiate y.phase ≡ true → q.u.ring.call.tap ≡ k
        mine i = (held_call q.u.invariant.keeps.inv.last q.u.ring.call k v.own (last_call w base members q.u)
            (held_begun p v (place p w.now k t) w.trace q.u.invariant.keeps.inv.last v.phase x.0 v.busy v.quiet v.own v.reply x.2 o.view_ok (b.initiated i))).by

        here : TapAfter p members t.spec.address to a v (ended p y to a)
        here = ended_after p members t.spec.address to a v y q.u.ring.ascends (b.hears on) (no_reply_begun v.phase v.reply o.silent.in_place on) refl
            (view_address w base members q.u k t at) b.passive b.back b.forth b.initiates refl b.asked (λ part. r.member (b.back part))
            (may_end w base members q.u k to y.phase a q.later mine
            (λ of slot e. let i : may_initiate y.phase ≡ true = ap may_initiate e in
            (i, λ from. status_before v.phase v.own.begin x.0 of slot e (is_question (brought_by q.u.ring.call.octets)) (r.asked from (mine i)))) (arrives w base members q.u k to t q.later))

    on : IsOn v.phase → TapAfter p members t.spec.address to a v v'
    on i = after i (reads_pass w base members to q k t at i)

-- ---- one that waits for a reply

-- no reply reaches the one that called before a moment
abbrev pub NoReplyBefore : (delay now to : ℕ) → Entry → Type 0
NoReplyBefore delay now to (Noise span) = Unit {0}
NoReplyBefore delay now to (Sent x) = is_initiator x ≡ false → now ≤ x.begin + delay → to ≤ x.begin + delay

-- then nothing begins at it
quiet_caller : (w : World) (base : ℕ) (members : List ℕ) (to : ℕ) (q : Passes w base members to) (k : ℕ) (t : Tap) → RunsAt w k t → q.u.ring.call.tap ≡ k → Each (NoReplyBefore w.params.ttd w.now to) w.trace
    → NoBegin w.now to (sensed w.params.ttd k t.since w.trace)
quiet_caller w base members to q k t at mine none =
    to_spans (λ h. IfSome h (λ y. (y.begin < w.now) ⊎ (to ≤ y.begin))) w.params.ttd k t.since w.trace
    (each_both_ (λ e a b. one e a b (heard_span w.params.ttd k t.since e) refl) (known w base members q.u) none)
  where
    r : RingTap w.params base members w.taps w.trace q.u.ring.call k t
    r = ring_at w base members q.u k t at

    len : (e : Entry) → Known w base members q.u e → HasLength e
    len (Noise span) a = a.holds.1
    len (Sent x) a = a.holds.some

    one : (e : Entry) → Known w base members q.u e → NoReplyBefore w.params.ttd w.now to e → (h : Option Span) → heard_span w.params.ttd k t.since e ≡ h → IfSome h (λ y. (y.begin < w.now) ⊎ (to ≤ y.begin))
    one e a b None i = tt
    one e a b (Some y) i = ⊎_elim (λ (early : y.begin < w.now). inl early) (λ (late : w.now ≤ y.begin). inr (comes late)) (cases_lt y.begin w.now)
      where
        comes : w.now ≤ y.begin → to ≤ y.begin
        comes late =
            let x = reaches_as w.params base w.now k t.since members w.trace q.u.ring.call e q.u.ring.from r.since (len e a) a.ring y i late in
            by x.x x.is x.another x.late x.at (is_initiator x.x) refl
          where
            by : (x : Record) → e ≡ Sent x → (x.tap ≡ k → ⊥) → w.now ≤ x.begin + w.params.ttd → y.begin ≡ x.begin + w.params.ttd → (c : Bool) → is_initiator x ≡ c → to ≤ y.begin
            by x is other late at true init =
                let h = subst (Known w base members q.u) is a in
                absurd (other (by_caller w base members q.u x h init (let some = h.holds.some in omega (arith, some, late)) ∙ mine))
            by x is other late at false rep = let h = subst (NoReplyBefore w.params.ttd w.now to) is b rep late in omega (arith, h, at)

    each_both_ : ((e : Entry) → Known w base members q.u e → NoReplyBefore w.params.ttd w.now to e → IfSome (heard_span w.params.ttd k t.since e) (λ y. (y.begin < w.now) ⊎ (to ≤ y.begin)))
        → Each (Known w base members q.u) w.trace → Each (NoReplyBefore w.params.ttd w.now to) w.trace → Each (λ e. IfSome (heard_span w.params.ttd k t.since e) (λ y. (y.begin < w.now) ⊎ (to ≤ y.begin))) w.trace
    each_both_ f a b = each_both (Known w base members q.u) (NoReplyBefore w.params.ttd w.now to) (λ e. IfSome (heard_span w.params.ttd k t.since e) (λ y. (y.begin < w.now) ⊎ (to ≤ y.begin))) w.trace f a b

-- a phase that is armed is not busy, and not offline
armed_still : (ph : Phase) (b : Bool) → IsArmed ph b → (b ≡ false) × IsOn ph
armed_still (AwaitData asked retry slot) b a = (a.2, tt)
armed_still (AwaitStatus of slot) b a = (a.1, tt)
armed_still Offline b a = absurd a
armed_still PassiveIdle b a = absurd a
armed_still (Listening doubled) b a = absurd a
armed_still (Idle refused) b a = absurd a
armed_still (Claim sent ready) b a = absurd a
armed_still (Use asked ready) b a = absurd a
armed_still (Pass tries ready) b a = absurd a
armed_still (Checking tries) b a = absurd a

-- the tap that stands at an index before a pass, and its view after it
pub record WasAt (w : World) (k to : ℕ) (x : Tap) : Type 0 where
  pub t : Tap
  pub at : RunsAt w k t
  pub view_is : view w.params x ≡ then_view w k to t
  pub spec : x.spec ≡ t.spec
  pub since : x.since ≡ t.since

-- a tap after a pass was there before
pub was_at : (w : World) (k to : ℕ) (x : Tap) → slice_get (told w.params.ttd w.trace w.now to 0 w.taps) k ≡ Some x → x.running ≡ true → WasAt w k to x
was_at w k to x here running =
    let b = told_at w.params.ttd w.trace w.now to 0 k w.taps k x (omega arith) here in
    let run : b.t.running ≡ true = sym (ap (λ (z : Tap). z.running) b.is) ∙ running in
    record {
      t = b.t;
      at = record { here = b.here; running = run };
      view_is = ap (view w.params) b.is ∙ append_marks w.params b.t.station b.t.marks (new_marks w.params.ttd k b.t w.trace w.now to)
          ∙ ap (λ c. after_marks w.params (view w.params b.t) (if c then marks_between w.params.ttd k b.t w.trace w.now to else [])) run;
      spec = ap (λ (z : Tap). z.spec) b.is;
      since = ap (λ (z : Tap). z.since) b.is;
    }

-- and it goes on to wait
pub armed_after : (w : World) (base : ℕ) (members : List ℕ) (to : ℕ) (q : Passes w base members to) → ArmedAt w.params w.taps q.u.ring.call.tap → Each (NoReplyBefore w.params.ttd w.now to) w.trace
    → ArmedAt w.params (told w.params.ttd w.trace w.now to 0 w.taps) q.u.ring.call.tap
armed_after w base members to q armed none x here running =
    let b = was_at w q.u.ring.call.tap to x here running in
    subst (λ (z : Station). IsArmed z.phase z.busy) (sym b.view_is) (still b.t b.at)
  where
    still : (t : Tap) → RunsAt w q.u.ring.call.tap t → IsArmed (then_view w q.u.ring.call.tap to t).phase (then_view w q.u.ring.call.tap to t).busy
    still t at = by (reads_pass w base members to q q.u.ring.call.tap t at s.1)
      where
        arms : IsArmed (view w.params t).phase (view w.params t).busy
        arms = armed t at.here at.running

        s : ((view w.params t).busy ≡ false) × IsOn (view w.params t).phase
        s = armed_still (view w.params t).phase (view w.params t).busy arms

        quiet : NoBegin w.now to (sensed w.params.ttd q.u.ring.call.tap t.since w.trace)
        quiet = quiet_caller w base members to q q.u.ring.call.tap t at refl none

        by : PassOf w.params w.now to (sensed w.params.ttd q.u.ring.call.tap t.since w.trace) (then_arrival w q.u.ring.call.tap to t) (view w.params t) (then_view w q.u.ring.call.tap to t)
            → IsArmed (then_view w q.u.ring.call.tap to t).phase (then_view w q.u.ring.call.tap to t).busy
        by (HearsNothing e n o) = subst (λ (z : Station). IsArmed z.phase z.busy) (sym e) arms
        by (HearsBegin m low high b may e some o) = absurd (some quiet)
        by (HearsEnd z busy (inl same) e closed) = absurd (let wrong : true ≡ false = sym busy ∙ ap (λ (y : Station). y.busy) same ∙ s.0 in cc)
        by (HearsEnd z busy (inr y) e closed) = absurd (y.4 quiet)
