-- What a tap of an undisturbed ring reads in a pass: nothing, a begin, an end, or both.
use Rattle.std.proofs.Common.{◌≡◌, ℕ, ◌<◌, ◌≤◌, ◌⊎◌, inl, inr, ⊎_elim, Bool, true, false, List, ◌++◌, refl, sym, ap, ◌∙◌, subst, arith, Option, Some, None}
use Rattle.std.specs.Prelude.{slice_get, find, IfSome}
use Rattle.std.proofs.lemmas.Bool.{cases_lt}
use Rattle.pb_timers.specs.Timers.{Params}
use Rattle.law_turn.specs.Spans.{Span}
use Rattle.law_turn.specs.Arrivals.{Arrival, arrival_of}
use Rattle.law_turn.specs.Marks.{End}
use Rattle.law_turn.specs.Phases.{Phase, Offline, PassiveIdle, Listening, Idle, Claim, Use, AwaitData, AwaitStatus, Pass, Checking, is_offline}
use Rattle.law_turn.specs.Stations.{Station}
use Rattle.law_turn.specs.Hearing.{after_timer, after_mark, begun, ended, phase_begun}
use Rattle.law_turn.specs.Turns.{after_marks}
use Rattle.law_model.specs.Trace.{Entry, Sent, Noise}
use Rattle.law_model.specs.Medium.{Tap, sensed, begins_in, ends_in, begin_mark, end_mark, burst_characters, marks_between}
use Rattle.law_model.specs.World.{World}
use Rattle.law_model.proofs.Cases.{by_test}
use Rattle.law_model.proofs.Window.{EachSpan, spans_both, Solid, NoBegin, Opened, ClosedAt, WindowOf, window, found, BeginFound, begin_found}
use Rattle.law_token.specs.Lists.{Each}
use Rattle.law_token.specs.Places.{heard_span}
use Rattle.law_token.specs.Views.{view, place, TapHolds, IsOn}
use Rattle.law_token.proofs.bus.Lists.{each_map}
use Rattle.law_token.proofs.bus.Spans.{to_spans, from_spans}
use Rattle.law_token.proofs.pass.Brings.{HasLength}
use Rattle.law_token.proofs.pass.Taps.{knows_on, senses_of}
use Rattle.law_rings.specs.Ring.{RingTap}
use Rattle.law_rings.proofs.HearInRing as hear
use Rattle.law_rings.proofs.Reaching.{reaches_as, Undisturbed, Known, known}
use Rattle.law_rings.proofs.Beginning.{FirstAt, MayBegin, may_timer, may_begin}
use Rattle.law_token.proofs.quiet.Alert.{on_phase}

-- ---- what it reads

-- how a station reads a pass
pub data PassOf (p : Params) (now to : ℕ) (xs : List Span) (a : Arrival) (v v' : Station) : Type 0 where
  HearsNothing : v' ≡ v → (v.busy ≡ false → NoBegin now to xs) → (v.busy ≡ true → Opened to xs) → PassOf p now to xs a v v'
  HearsBegin : (m : ℕ) → now ≤ m → m < to → v.busy ≡ false → MayBegin p v v.phase m → v' ≡ begun v m → (NoBegin now to xs → ⊥) → Opened to xs → PassOf p now to xs a v v'
  HearsEnd : (s : Station) → s.busy ≡ true → (s ≡ v) ⊎ ((m : ℕ) × (v.busy ≡ false) × MayBegin p v v.phase m × (s ≡ begun v m) × (NoBegin now to xs → ⊥)) → v' ≡ ended p s to a → ClosedAt to xs → PassOf p now to xs a v v'

-- and is not so after a begin
pub begun_on : (ph : Phase) (own m : ℕ) → IsOn ph → is_offline (phase_begun ph own m) ≡ false
begun_on Offline own m on = absurd on
begun_on PassiveIdle own m on = refl
begun_on (Listening doubled) own m on = refl
begun_on (Idle refused) own m on = refl
begun_on (Claim sent ready) own m on = refl
begun_on (Use asked ready) own m on = refl
begun_on (AwaitData asked retry slot) own m on = refl
begun_on (AwaitStatus of slot) own m on = refl
begun_on (Pass tries ready) own m on = refl
begun_on (Checking tries) own m on = by_test (λ ph. is_offline ph ≡ false) _ (Checking tries) (Idle None) (λ _. refl) (λ _. refl)

-- by the bursts that begin and end in the window
by_window : (p : Params) (now to k : ℕ) (t : Tap) (trace : List Entry) (xs : List Span) (v : Station) (busy : Bool) (b e : Option Span) → now < to → v.busy ≡ busy → IsOn v.phase → WindowOf now to xs busy b e
    → (busy ≡ false → IfSome b (λ x. MayBegin p v v.phase x.begin × (NoBegin now to xs → ⊥)))
    → PassOf p now to xs (arrival_of (burst_characters p.ttd k t trace to)) v (after_marks p v (begin_mark to b ++ end_mark p.ttd k t trace to e))
by_window p now to k t trace xs v false None None later is on w may = HearsNothing refl (λ _. w) (λ busy. let x : false ≡ true = sym is ∙ busy in absurd cc)
by_window p now to k t trace xs v false (Some x) None later is on w may =
    HearsBegin x.begin w.0 w.1 is (may refl).0 (hear.begin_mark p v x.begin to (on_phase v.phase on) (may_timer p v x.begin is (may refl).0)) (may refl).1 w.2
by_window p now to k t trace xs v false None (Some y) later is on w may = absurd w
by_window p now to k t trace xs v false (Some x) (Some y) later is on w may =
    let s = begun v x.begin in
    HearsEnd s refl (inr (x.begin, is, (may refl).0, refl, (may refl).1))
    (ap (λ z. after_mark p (after_timer p y.end z) (End y.end to (burst_characters p.ttd k t trace y.end))) (hear.begin_mark p v x.begin to (on_phase v.phase on) (may_timer p v x.begin is (may refl).0))
    ∙ ap (λ n. after_mark p (after_timer p n s) (End n to (burst_characters p.ttd k t trace n))) w.2
    ∙ hear.end_mark p s to to to (burst_characters p.ttd k t trace to) (begun_on v.phase v.own.begin x.begin on) refl)
    w.3
by_window p now to k t trace xs v true None None later is on w may = HearsNothing refl (λ still. let x : true ≡ false = sym is ∙ still in absurd cc) (λ _. w)
by_window p now to k t trace xs v true (Some x) e later is on w may = absurd w
by_window p now to k t trace xs v true None (Some y) later is on w may =
    HearsEnd v is (inl refl)
    (ap (λ n. after_mark p (after_timer p n v) (End n to (burst_characters p.ttd k t trace n))) w.0 ∙ hear.end_mark p v to to to (burst_characters p.ttd k t trace to) (on_phase v.phase on) is) w.1

-- ---- a tap of a ring

-- the first that begins there comes in time
first_may : (w : World) (base : ℕ) (members : List ℕ) (u : Undisturbed w base members) (k to : ℕ) (t : Tap) (y : Span) → slice_get w.taps k ≡ Some t → t.running ≡ true → w.now < to
    → EachSpan (Solid w.now to) (sensed w.params.ttd k t.since w.trace) → find (begins_in (sensed w.params.ttd k t.since w.trace) w.now to) (sensed w.params.ttd k t.since w.trace) ≡ Some y
    → (view w.params t).busy ≡ false → IsOn (view w.params t).phase → TapHolds w.params w.now w.trace u.invariant.keeps.inv.last k t → RingTap w.params base members w.taps w.trace u.ring.call k t
    → MayBegin w.params (view w.params t) (view w.params t).phase y.begin
first_may w base members u k to t y here run later solid e still on o r = (found (λ z. w.now ≤ z.begin → z.begin ≡ y.begin → MayBegin p v v.phase y.begin) (begins_in xs w.now to) xs y all e).1 b.low refl
  where
    p : Params
    p = w.params

    v : Station
    v = view p t

    xs : List Span
    xs = sensed p.ttd k t.since w.trace

    b : BeginFound w.now to xs y
    b = begin_found w.now to xs y solid e

    first : Each (λ x. FirstAt w.now y.begin (heard_span p.ttd k t.since x)) w.trace
    first = from_spans (FirstAt w.now y.begin) p.ttd k t.since w.trace tt
        (spans_both (λ z. (y.begin ≤ z.begin) ⊎ (z.end ≤ y.begin)) (Solid w.now to) (λ z. (y.begin ≤ z.begin) ⊎ ((z.begin < w.now) × (z.end ≤ w.now))) xs
        (λ z h s. ⊎_elim (λ (x : y.begin ≤ z.begin). inl x)
        (λ (x : z.end ≤ y.begin). let high = b.high in let some = s.0 in ⊎_elim (λ (lt : w.now < z.end). let past = s.1 lt in absurd (omega (arith, past, x, high))) (λ (le : z.end ≤ w.now). inr (omega (arith, le, some), le)) (cases_lt w.now z.end)) h)
        b.none solid)

    one : (x : Entry) → Known w base members u x → (h : Option Span) → heard_span p.ttd k t.since x ≡ h → IfSome h (λ z. w.now ≤ z.begin → z.begin ≡ y.begin → MayBegin p v v.phase y.begin)
    one x known_ None q = tt
    one x known_ (Some z) q = λ late same.
        let a = reaches_as p base w.now k t.since members w.trace u.ring.call x u.ring.from r.since (len x known_) known_.ring z q late in
        may_begin w base members u k t y.begin
        (record { here = here; running = run; x = a.x; known = subst (Known w base members u) a.is known_; another = a.another; late = b.low; at = sym same ∙ a.at; way = a.way; first = first }) still on o r
      where
        len : (e : Entry) → Known w base members u e → HasLength e
        len (Noise span) a = a.holds.1
        len (Sent x) a = a.holds.some

    all : EachSpan (λ z. w.now ≤ z.begin → z.begin ≡ y.begin → MayBegin p v v.phase y.begin) xs
    all = to_spans (λ h. IfSome h (λ z. w.now ≤ z.begin → z.begin ≡ y.begin → MayBegin p v v.phase y.begin)) p.ttd k t.since w.trace
        (each_map (Known w base members u) (λ x. IfSome (heard_span p.ttd k t.since x) (λ z. w.now ≤ z.begin → z.begin ≡ y.begin → MayBegin p v v.phase y.begin)) w.trace
        (λ x h. one x h (heard_span p.ttd k t.since x) refl) (known w base members u))

-- where a begin is found, one begins
some_begins : (now to : ℕ) (xs : List Span) (y : Span) → EachSpan (Solid now to) xs → find (begins_in xs now to) xs ≡ Some y → NoBegin now to xs → ⊥
some_begins now to xs y solid e none =
    let b = begin_found now to xs y solid e in
    let low = b.low in
    let high = b.high in
    ⊎_elim (λ (x : y.begin < now). omega (arith, x, low)) (λ (x : to ≤ y.begin). omega (arith, x, high)) (found (λ z. (z.begin < now) ⊎ (to ≤ z.begin)) (begins_in xs now to) xs y none e).1

-- so a pass is read by a tap that is not offline
pub pass_of : (w : World) (base : ℕ) (members : List ℕ) (u : Undisturbed w base members) (k to : ℕ) (t : Tap) → slice_get w.taps k ≡ Some t → t.running ≡ true → w.now < to
    → EachSpan (Solid w.now to) (sensed w.params.ttd k t.since w.trace) → IsOn (view w.params t).phase → TapHolds w.params w.now w.trace u.invariant.keeps.inv.last k t → RingTap w.params base members w.taps w.trace u.ring.call k t
    → PassOf w.params w.now to (sensed w.params.ttd k t.since w.trace) (arrival_of (burst_characters w.params.ttd k t w.trace to)) (view w.params t) (after_marks w.params (view w.params t) (marks_between w.params.ttd k t w.trace w.now to))
pass_of w base members u k to t here run later solid on o r =
    let p = w.params in
    let v = view p t in
    let c = place p w.now k t in
    let xs = sensed p.ttd k t.since w.trace in
    let b = find (begins_in xs w.now to) xs in
    let e = find (ends_in xs w.now to) xs in
    by_window p w.now to k t w.trace xs v v.busy b e later refl on (window w.now to xs v.busy b e later solid (senses_of c w.trace v.busy v.quiet (knows_on c w.trace v.phase v.busy v.quiet v.own on o.knows).senses) refl refl)
    (λ still. by b refl still)
  where
    by : (b : Option Span) → find (begins_in (sensed w.params.ttd k t.since w.trace) w.now to) (sensed w.params.ttd k t.since w.trace) ≡ b → (view w.params t).busy ≡ false → IfSome b (λ x. MayBegin w.params (view w.params t) (view w.params t).phase x.begin × (NoBegin w.now to (sensed w.params.ttd k t.since w.trace) → ⊥))
    by None q still = tt
    by (Some y) q still = (first_may w base members u k to t y here run later solid q still on o r, λ none. some_begins w.now to (sensed w.params.ttd k t.since w.trace) y solid q none)
