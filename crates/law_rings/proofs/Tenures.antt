-- A holder in an undisturbed ring keeps within its time, as time passes.
use Rattle.std.proofs.Common.{◌≡◌, ℕ, ◌+◌, ◌-◌, ◌*◌, ◌<◌, ◌≤◌, inl, inr, ⊎_elim, Bool, true, false, if◌then◌else◌, ◌==◌, ◌||◌, List, [], ◌∷◌, refl, sym, ap, ◌∙◌, subst, arith, Some, None}
use Rattle.std.specs.Prelude.{slice_get, max}
use Rattle.std.specs.Option.{option_and_then}
use Rattle.std.proofs.lemmas.Bool.{cases_lt, eq-eqb, or_parts}
use Rattle.pb_timers.specs.Timers.{Params}
use Rattle.law_turn.specs.Spans.{Span}
use Rattle.law_turn.specs.Arrivals.{Arrival, Token, Framed, Acknowledgement, NoTelegram}
use Rattle.law_turn.specs.Marks.{Begin, End}
use Rattle.law_turn.specs.Phases.{Phase, Offline, PassiveIdle, Listening, Idle, Claim, Use, AwaitData, AwaitStatus, Pass, Checking, is_offline, may_initiate}
use Rattle.law_turn.specs.Stations.{Station}
use Rattle.law_turn.specs.Hearing.{begun, ended}
use Rattle.law_model.specs.Trace.{Record, Entry, Sent, Noise}
use Rattle.law_model.specs.Medium.{Tap, part_after, reaches, is_unheard, sensed, burst_characters}
use Rattle.law_model.specs.World.{World}
use Rattle.law_model.proofs.Window.{ClosedAt}
use Rattle.law_runs.specs.Initiators.{is_initiator, initiates}
use Rattle.law_token.specs.Lists.{Each}
use Rattle.law_token.specs.Places.{heard_span, IsOver, Place}
use Rattle.law_token.specs.Views.{ViewOf, view, place, IsOn}
use Rattle.law_token.proofs.bus.Lists.{each_map, each_both}
use Rattle.law_token.proofs.bus.Spans.{to_spans}
use Rattle.law_token.proofs.bus.Pairs.{over_clip}
use Rattle.law_live.specs.NeverDead.{longest}
use Rattle.law_live.specs.Flow.{IsCalmBy, IsShort, Flow}
use Rattle.law_live.specs.Holding.{Spends, IfToken, IfAwaited}
use Rattle.law_live.proofs.HoldersRead.{spends-after_mark}
use Rattle.law_rings.proofs.Calls.{HeldCall, held_call}
use Rattle.law_rings.proofs.HearInRing.{IsHearing}
use Rattle.law_rings.proofs.Reaching.{Undisturbed, last_call, Known, known, by_caller}
use Rattle.law_rings.proofs.PassOfTime.{PassOf, HearsNothing, HearsBegin, HearsEnd, begun_on}
use Rattle.law_rings.proofs.Whole.{ArrivesAs, ComesNothing, ComesAs, arrives}
use Rattle.law_rings.proofs.TapPass.{busy_hears, held_hears, held_begun}
use Rattle.law_rings.proofs.TapsPass.{Passes, RunsAt, then_view, then_arrival, holds_at, ring_at, reads_pass}
use Rattle.law_token.proofs.quiet.Alert.{on_phase}

-- ---- what is kept of every station

-- all entries are over by some moment
all_calm : (trace : List Entry) → (q : ℕ) × Each (IsCalmBy q) trace
all_calm [] = (0, tt)
all_calm (e ∷ es) =
    let rest = all_calm es in
    let q = max (end_of e) rest.0 in
    (q, (here e q (omega arith), each_map (IsCalmBy rest.0) (IsCalmBy q) es (λ x h. more x rest.0 q (omega arith) h) rest.1))
  where
    end_of : Entry → ℕ
    end_of (Noise span) = span.end
    end_of (Sent r) = r.end

    here : (e : Entry) (q : ℕ) → end_of e ≤ q → IsCalmBy q e
    here (Noise span) q le = le
    here (Sent r) q le = λ _. le

    more : (x : Entry) (r q : ℕ) → r ≤ q → IsCalmBy r x → IsCalmBy q x
    more (Noise span) r q le h = omega (arith, le, h)
    more (Sent x) r q le h = λ token. let g = h token in omega (arith, le, g)

-- its target rotation time, its retries, and how long its last telegram was
pub record Basics (p : Params) (s : Station) : Type 0 where
  pub target : s.rotation.ttr ≡ p.ttr
  pub retries : s.cycles.initiator.retries ≡ p.retries
  pub short : s.own.end ≤ s.own.begin + longest

-- by what is kept of every station
pub basics : (w : World) (k : ℕ) (t : Tap) → Flow w → slice_get w.taps k ≡ Some t → t.running ≡ true → Basics w.params (view w.params t)
basics w k t f here running =
    let q = all_calm w.trace in
    let s = (f.taps k t here running).spends q.0 (inl q.1) in
    record { target = s.target; retries = s.retries; short = s.short }

-- ---- a pass

-- where nothing comes that is a token
no_token_if : (a : Arrival) (X : Type 0) → ((da sa : ℕ) → a ≡ Token da sa → ⊥) → IfToken a X
no_token_if (Token da sa) X none = absurd (none da sa refl)
no_token_if (Framed f) X none = tt
no_token_if Acknowledgement X none = tt
no_token_if NoTelegram X none = tt

-- in every phase
if_awaited : (ph : Phase) (X : Type 0) → X → IfAwaited ph X
if_awaited Offline X h = tt
if_awaited PassiveIdle X h = tt
if_awaited (Listening doubled) X h = tt
if_awaited (Idle refused) X h = tt
if_awaited (Claim sent ready) X h = tt
if_awaited (Use asked ready) X h = tt
if_awaited (AwaitData asked retry slot) X h = h
if_awaited (AwaitStatus of slot) X h = h
if_awaited (Pass tries ready) X h = tt
if_awaited (Checking tries) X h = tt

-- a Begin
begun_spends : (p : Params) (recent d m seen : ℕ) (s : Station) → is_offline s.phase ≡ false → Spends p recent d s → Spends p recent d (begun s m)
begun_spends p recent d m seen s on o = subst (λ b. Spends p recent d (if b then s else begun s m)) on (spends-after_mark p recent d s (Begin m seen) tt o)

-- no token comes to the one that called
no_token_to : (w : World) (base : ℕ) (members : List ℕ) (u : Undisturbed w base members) (k to : ℕ) (a : Arrival) → w.now < to → u.ring.call.tap ≡ k → ArrivesAs w base members u k to a → (da sa : ℕ) → a ≡ Token da sa → ⊥
no_token_to w base members u k to a later mine (ComesNothing e) da sa f = let wrong : NoTelegram ≡ Token da sa = sym e ∙ f in cc
no_token_to w base members u k to a later mine (ComesAs x h ends another way e) da sa f = another (by_caller w base members u x h (ap initiates (sym e ∙ f)) (omega (arith, ends, later)) ∙ mine)

-- the moment by which a reply to its call ends at it
abbrev pub reply_end : Params → Station → ℕ
reply_end p s = s.own.begin + 2 * longest + (p.tsl - 1)

-- what another has sent is over by then at the one that called, or by the clock
pub sent_ends : (w : World) (base : ℕ) (members : List ℕ) (u : Undisturbed w base members) (k : ℕ) (t : Tap) → RunsAt w k t → HeldCall u.ring.call k (view w.params t).own → (x : Record) → Known w base members u (Sent x) → IsShort (Sent x) → (x.tap ≡ k → ⊥)
    → x.end + w.params.ttd ≤ max w.now (reply_end w.params (view w.params t))
sent_ends w base members u k t at mine x h short ne = ⊎_elim air (λ (over : x.end + w.params.ttd ≤ w.now). omega (arith, over)) (cases_lt w.now (x.end + w.params.ttd))
  where
    air : w.now < x.end + w.params.ttd → x.end + w.params.ttd ≤ max w.now (reply_end w.params (view w.params t))
    air late = by (is_initiator x) refl
      where
        by : (b : Bool) → is_initiator x ≡ b → x.end + w.params.ttd ≤ max w.now (reply_end w.params (view w.params t))
        by true init = absurd (ne (by_caller w base members u x h init late ∙ mine.by))
        by false none =
            let a = (h.ring late).answers none in
            let soon = a.soon in
            let ends = mine.end in
            let long = (basics w k t u.flow at.here at.running).short in
            let in_time = u.flow.reply_in_time in
            omega (arith, soon, ends, long, in_time, short)

-- so all that it hears is
pub heard_ends : (w : World) (base : ℕ) (members : List ℕ) (u : Undisturbed w base members) (k : ℕ) (t : Tap) (m : ℕ) → RunsAt w k t → HeldCall u.ring.call k (view w.params t).own
    → Each (λ e. IsOver m (max w.now (reply_end w.params (view w.params t))) (heard_span w.params.ttd k t.since e)) w.trace
heard_ends w base members u k t m at mine =
    each_both (Known w base members u) IsShort (λ e. IsOver m end (heard_span w.params.ttd k t.since e)) w.trace one (known w base members u) u.flow.short
  where
    end : ℕ
    end = max w.now (reply_end w.params (view w.params t))

    one : (e : Entry) → Known w base members u e → IsShort e → IsOver m end (heard_span w.params.ttd k t.since e)
    one (Noise span) h short = over_clip m end t.since span (inr (let o = h.ring in let from = u.ring.from in omega (arith, o, from)))
    one (Sent x) h short = by (x.tap == k || is_unheard (slice_get x.heard k)) refl
      where
        by : (b : Bool) → (x.tap == k || is_unheard (slice_get x.heard k)) ≡ b → IsOver m end (option_and_then (part_after t.since) (if b then None else Some (reaches w.params.ttd x)))
        by true e = tt
        by false e = over_clip m end t.since (reaches w.params.ttd x)
            (inr (sent_ends w base members u k t at mine x h short (λ same. let wrong : true ≡ false = sym (eq-eqb x.tap k same) ∙ (or_parts (x.tap == k) (is_unheard (slice_get x.heard k)) e).0 in cc)))

-- what ends at the one that called, ends in time
ends_in_time : (w : World) (base : ℕ) (members : List ℕ) (to : ℕ) (q : Passes w base members to) (k : ℕ) (t : Tap) → RunsAt w k t → HeldCall q.u.ring.call k (view w.params t).own → ClosedAt to (sensed w.params.ttd k t.since w.trace)
    → to ≤ reply_end w.params (view w.params t)
ends_in_time w base members to q k t at mine closed =
    let end = max w.now (reply_end w.params (view w.params t)) in
    let h = closed.1 end (to_spans (IsOver to end) w.params.ttd k t.since w.trace (heard_ends w base members q.u k t to at mine)) in
    let later = q.later in
    omega (arith, h, later)

-- so a holder keeps within its time
pub spends_pass : (w : World) (base : ℕ) (members : List ℕ) (to : ℕ) (q : Passes w base members to) (k : ℕ) (t : Tap) (recent d : ℕ) → RunsAt w k t → IsOn (view w.params t).phase → may_initiate (view w.params t).phase ≡ true
    → Spends w.params recent d (view w.params t) → Spends w.params recent d (then_view w k to t)
spends_pass w base members to q k t recent d at on may o = by (reads_pass w base members to q k t at on)
  where
    p : Params
    p = w.params

    v : Station
    v = view p t

    c : Place
    c = place p w.now k t

    end_spends : (s : Station) → is_offline s.phase ≡ false → s.own ≡ v.own → HeldCall q.u.ring.call k v.own → ClosedAt to (sensed p.ttd k t.since w.trace) → Spends p recent d s → Spends p recent d (ended p s to (then_arrival w k to t))
    end_spends s on_ own mine closed os =
        subst (λ b. Spends p recent d (if b then s else ended p s to (then_arrival w k to t))) on_
        (spends-after_mark p recent d s (End to to (burst_characters p.ttd k t w.trace to)) (
          no_token_if (then_arrival w k to t) _ (no_token_to w base members q.u k to (then_arrival w k to t) q.later mine.by (arrives w base members q.u k to t q.later)),
          if_awaited s.phase _ (inr (subst (λ (z : Span). to ≤ z.begin + 2 * longest + (p.tsl - 1)) (sym own) (ends_in_time w base members to q k t at mine closed))),
        ) os)

    by : PassOf p w.now to (sensed p.ttd k t.since w.trace) (then_arrival w k to t) v (then_view w k to t) → Spends p recent d (then_view w k to t)
    by (HearsNothing e none opened) = subst (Spends p recent d) (sym e) o
    by (HearsBegin m low high still may_ e some opened) = subst (Spends p recent d) (sym e) (begun_spends p recent d m m v (on_phase v.phase on) o)
    by (HearsEnd s busy (inl same) e closed) =
        subst (Spends p recent d) (sym (e ∙ ap (λ z. ended p z to (then_arrival w k to t)) same)) (end_spends v (on_phase v.phase on) refl mine closed o)
      where
        ok : ViewOf c w.trace q.u.invariant.keeps.inv.last v.phase true v.quiet v.own v.reply
        ok = subst (λ z. ViewOf c w.trace q.u.invariant.keeps.inv.last v.phase z v.quiet v.own v.reply) (ap (λ (z : Station). z.busy) (sym same) ∙ busy) (holds_at w base members q.u k t at).view_ok

        mine : HeldCall q.u.ring.call k v.own
        mine = ⊎_elim
            (λ (h : IsHearing v.phase). held_call q.u.invariant.keeps.inv.last q.u.ring.call k v.own (last_call w base members q.u) (held_hears c w.trace q.u.invariant.keeps.inv.last v.phase true v.quiet v.own v.reply ok h may))
            (λ (ph : v.phase ≡ PassiveIdle). absurd (let wrong : false ≡ true = ap may_initiate (sym ph) ∙ may in cc))
            (busy_hears c w.trace q.u.invariant.keeps.inv.last v.phase v.quiet v.own v.reply ok (ring_at w base members q.u k t at).undisturbed on)
    by (HearsEnd s busy (inr x) e closed) =
        subst (Spends p recent d) (sym (e ∙ ap (λ z. ended p z to (then_arrival w k to t)) x.3))
        (end_spends (begun v x.0) (begun_on v.phase v.own.begin x.0 on) refl
        (held_call q.u.invariant.keeps.inv.last q.u.ring.call k v.own (last_call w base members q.u)
        (held_begun p v c w.trace q.u.invariant.keeps.inv.last v.phase x.0 v.busy v.quiet v.own v.reply x.2 (holds_at w base members q.u k t at).view_ok may)) closed
        (begun_spends p recent d x.0 x.0 v (on_phase v.phase on) o))
