-- What bounds the silence of one tap, whatever the other taps hold: its view, its due, and what it feels of the bus.
use Rattle.std.proofs.Common.{◌≡◌, ℕ, ◌+◌, ◌-◌, ◌<◌, ◌≤◌, ◌⊎◌, inl, inr, ⊎_elim, Bool, true, false, if◌then◌else◌, ◌==◌, ◌&&◌, ◌||◌, List, [], ◌∷◌, ◌++◌, refl, sym, ap, ◌∙◌, subst, arith, Option, Some, None}
use Rattle.std.specs.Option.{option_and_then}
use Rattle.std.proofs.lemmas.Bool.{cases_lt, eqb-false, or_parts}
use Rattle.std.specs.Prelude.{slice_get, nat_lt, max, find, IfSome}
use Rattle.pb_timers.specs.Timers.{Params, tto}
use Rattle.law_turn.specs.Spans.{Span}
use Rattle.law_turn.specs.Laws.{HasOpenRequest, IsDueLater}
use Rattle.law_turn.specs.Marks.{Mark, Begin, End, seen_at}
use Rattle.law_turn.specs.Phases.{Phase, Offline, PassiveIdle, Listening, Idle, Claim, Use, AwaitData, AwaitStatus, Pass, Checking, is_offline}
use Rattle.law_turn.specs.Stations.{Station, earlier, phase_timer, timer_of, phase_speaks, speaks_at, due_of}
use Rattle.law_turn.specs.Hearing.{phase_begun, heard, after_timer, after_mark}
use Rattle.law_turn.specs.Turns.{after_marks, turn_of}
use Rattle.law_turn.proofs.Moments.{later-turn_of, turn_of-offline}
use Rattle.law_turn.proofs.Noting.{end-busy, end-quiet, begin-quiet}
use Rattle.law_turn.proofs.Retrying.{left-turn_of}
use Rattle.law_model.specs.Trace.{Entry, Sent, Noise, entry_begin, with_entry}
use Rattle.law_model.specs.Medium.{Tap, part_after, reaches, is_unheard, sensed, begins_in, ends_in, begin_mark, end_mark, burst_characters, marks_between, new_marks}
use Rattle.law_model.specs.Step.{sending, with_said}
use Rattle.law_model.proofs.Cases.{by_test}
use Rattle.law_runs.specs.Premises.{is_overdue, is_late}
use Rattle.law_token.specs.Lists.{Each}
use Rattle.law_token.specs.Places.{LeavesTime, heard_span, IsOver, Place, Over}
use Rattle.law_token.specs.Views.{SeenBy, view, place, IsOn}
use Rattle.law_token.proofs.bus.Lists.{each_map, each_both, each_without}
use Rattle.law_token.proofs.bus.Live.{InTime, first_in_time, second_in_time, offline_marks, on_or_off, view_on}
use Rattle.law_model.proofs.Window.{EachSpan, Solid, WindowOf, SensesS, window, SolidO}
use Rattle.law_token.proofs.bus.Spans.{from_spans}
use Rattle.law_token.proofs.pass.Marks.{at_state, later, over_from}
use Rattle.law_token.proofs.pass.Taps.{over_to, over_of, over_in, none_in, append_marks, due_new, seen_at_window, overdue, seen_new}
use Rattle.law_token.proofs.bus.Hearers.{NewAt, new_sent, over_new, over_old}
use Rattle.law_token.proofs.turn.Initiator.{over_later, later_in_time}
use Rattle.law_token.proofs.quiet.Waking.{Waits, waits_fit, WakesBy, Wakes, quiet_after, same-after_timer, said-turn_of}

-- the telegrams of a tap have ended by a moment; or begin at the clock
abbrev pub OwnEnds : (tap q : ℕ) → Entry → Type 0
OwnEnds tap q (Noise span) = Unit {0}
OwnEnds tap q (Sent r) = r.tap ≡ tap → r.end ≤ q

abbrev pub OwnStill : (tap now q : ℕ) → Entry → Type 0
OwnStill tap now q (Noise span) = Unit {0}
OwnStill tap now q (Sent r) = r.tap ≡ tap → (now ≤ r.begin) ⊎ (r.end ≤ q)

-- a moment that is the tap's start, or the end of what it heard or sent
abbrev pub IsLatest : Place → List Entry → ℕ → Type 0
IsLatest c trace quiet = (q : ℕ) → c.since ≤ q → Over c trace q ⊎ (c.now ≤ q) → Each (OwnEnds c.tap q) trace → quiet ≤ q

-- busy: something is there; else all is over
abbrev pub Feels : Place → List Entry → Bool → Type 0
Feels c trace true = (q : ℕ) → Over c trace q → c.now < q
Feels c trace false = Over c trace c.now

abbrev pub Minds : Place → List Entry → Bool → ℕ → Type 0
Minds c trace busy quiet = Feels c trace busy × IsLatest c trace quiet

abbrev pub Bounded : Place → List Entry → Type 0
Bounded c trace = (q : ℕ) → c.since ≤ q → Over c trace q → Each (OwnStill c.tap c.now q) trace → c.now ≤ q + (tto c.p c.address + c.p.lag)

-- An entry is not active from one moment on, before another, where telegrams of others count so long after they were sent: 0 is at their speakers' moments, the
-- cable delay as the tap hears them.
abbrev pub IsApart : (reach tap from to : ℕ) → Entry → Type 0
IsApart reach tap from to (Noise span) = (to ≤ span.begin) ⊎ (span.end ≤ from)
IsApart reach tap from to (Sent r) =
    (r.tap ≡ tap → (to ≤ r.begin) ⊎ (r.end ≤ from)) × ((r.tap ≡ tap → ⊥) → (to ≤ r.begin + reach) ⊎ (r.end + reach ≤ from))

-- every stretch of silence within the running time, also one that is over, was no longer than it may be
abbrev pub Recalls : Params → ℕ → List Entry → (tap since address : ℕ) → Type 0
Recalls p now trace tap since address =
    (reach m u : ℕ) → reach ≤ p.ttd → since ≤ m → m < u → u ≤ now → Each (IsApart reach tap m u) trace → u ≤ m + (tto p address + p.lag + (p.ttd - reach))

-- a running tap of a master
pub record Alert (p : Params) (now : ℕ) (trace : List Entry) (k : ℕ) (t : Tap) : Type 0 where
  pub began : t.since ≤ now
  pub in_time : IfSome (due_of p t.station t.marks) (λ d. now ≤ d + p.lag)
  pub read : SeenBy now t.marks
  pub seen : IsOn t.station.phase → (q : ℕ) → Over (place p now k t) trace q → SeenBy q t.marks
  pub minds : IsOn (view p t).phase → Minds (place p now k t) trace (view p t).busy (view p t).quiet
  pub wakes : Wakes p t.spec.address t.station
  pub request : HasOpenRequest t.station
  pub recalls : IsOn t.station.phase → Recalls p now trace k t.since t.spec.address

-- ---- another trace that is to the tap as this one

pub record SameFor (c : Place) (trace other : List Entry) : Type 0 where
  pub back : (q : ℕ) → Over c other q → Over c trace q ⊎ (c.now < q)
  pub forth : Over c trace c.now → Over c other c.now
  pub ends : (q : ℕ) → Each (OwnEnds c.tap q) other → Each (OwnEnds c.tap q) trace
  pub past : (reach m u : ℕ) → m < u → u ≤ c.now → Each (IsApart reach c.tap m u) other → Each (IsApart reach c.tap m u) trace

latest_same : (c : Place) (trace other : List Entry) (quiet : ℕ) → SameFor c trace other → IsLatest c trace quiet → IsLatest c other quiet
latest_same c trace other quiet s latest q since over ends =
    latest q since
    (⊎_elim (λ (o : Over c other q). ⊎_elim (λ (a : Over c trace q). inl a) (λ (b : c.now < q). inr (omega arith)) (s.back q o)) (λ (n : c.now ≤ q). inr n) over) (s.ends q ends)

pub feels_same : (c : Place) (trace other : List Entry) (busy : Bool) → SameFor c trace other → Feels c trace busy → Feels c other busy
feels_same c trace other true s f = λ q over. ⊎_elim (λ (a : Over c trace q). f q a) (λ (b : c.now < q). b) (s.back q over)
feels_same c trace other false s f = s.forth f

seen_later : (now q : ℕ) (ms : List Mark) → now ≤ q → SeenBy now ms → SeenBy q ms
seen_later now q [] le h = tt
seen_later now q (m ∷ ms) le h = omega (arith, h)

pub alert_same : (p : Params) (now : ℕ) (trace other : List Entry) (k : ℕ) (t : Tap) → SameFor (place p now k t) trace other → Alert p now trace k t → Alert p now other k t
alert_same p now trace other k t s o =
    let c = place p now k t in
    record {
      began = o.began;
      in_time = o.in_time;
      read = o.read;
      seen = λ on q over. ⊎_elim (λ (a : Over c trace q). o.seen on q a) (λ (b : now < q). seen_later now q t.marks (omega arith) o.read) (s.back q over);
      minds = λ on. let h = o.minds on in (feels_same c trace other (view p t).busy s h.0, latest_same c trace other (view p t).quiet s h.1);
      wakes = o.wakes;
      request = o.request;
      recalls = λ on reach m u short since lt le apart. o.recalls on reach m u short since lt le (s.past reach m u lt le apart);
    }

-- one more entry, which the tap hears later, if at all
pub same_with : (c : Place) (trace : List Entry) (x : Entry) → NewAt c x → SameFor c trace (with_entry x trace)
same_with c trace x new = record {
  back = λ q over. inl (over_old c trace x q over);
  forth = λ over. over_new c trace x c.now new over;
  ends = λ q all. (each_without (OwnEnds c.tap q) x trace all).1;
  past = λ reach m u lt le all. (each_without (IsApart reach c.tap m u) x trace all).1;
}

-- ---- the bound

wake_due : (p : Params) (a to : ℕ) (s : Station) (ph : Phase) → Waits p (tto p a) → s.address ≡ a → s.own.end ≤ s.quiet → WakesBy false s.quiet (tto p a) ph → IsOn ph
    → InTime to p.lag (phase_timer p s ph) → InTime to p.lag (phase_speaks s.reply ph) → to ≤ s.quiet + (tto p a + p.lag)
wake_due p a to s Offline waits at order w on timer speaks = absurd on
wake_due p a to s PassiveIdle waits at order w on timer speaks = absurd w
wake_due p a to s (Listening doubled) waits at order w on timer speaks = let h = subst (λ n. to ≤ s.quiet + tto p n + p.lag) at timer in omega (arith, h)
wake_due p a to s (Idle refused) waits at order w on timer speaks = let h = subst (λ n. to ≤ s.quiet + tto p n + p.lag) at timer in omega (arith, h)
wake_due p a to s (Claim sent ready) waits at order w on timer speaks = omega (arith, w, speaks)
wake_due p a to s (Use asked ready) waits at order w on timer speaks = omega (arith, w, speaks)
wake_due p a to s (AwaitData asked None slot) waits at order w on timer speaks =
    let h = subst (λ b. InTime to p.lag (if b then Some (s.own.end + p.tsl) else None)) (w refl) timer in omega (arith, h, order, waits.slot)
wake_due p a to s (AwaitData asked (Some m) slot) waits at order w on timer speaks = omega (arith, w, speaks)
wake_due p a to s (AwaitStatus of slot) waits at order w on timer speaks =
    let h = subst (λ b. InTime to p.lag (if b then Some (s.own.end + p.tsl) else None)) (w refl) timer in omega (arith, h, order, waits.slot)
wake_due p a to s (Pass tries ready) waits at order w on timer speaks = omega (arith, w, speaks)
wake_due p a to s (Checking tries) waits at order w on timer speaks = omega (arith, timer, order, waits.slot)

abbrev pub BeganBefore : ℕ → Entry → Type 0
BeganBefore to e = entry_begin e < to

not_now : (k to q : ℕ) (e : Entry) → BeganBefore to e → OwnStill k to q e → OwnEnds k q e
not_now k to q (Noise span) b s = tt
not_now k to q (Sent r) b s = λ mine. ⊎_elim (λ (a : to ≤ r.begin). absurd (omega (arith, b))) (λ (h : r.end ≤ q). h) (s mine)

bounds : (p : Params) (to : ℕ) (trace : List Entry) (k : ℕ) (t : Tap) (ms : List Mark) → LeavesTime p → Each (BeganBefore to) trace → IsOn t.station.phase → Wakes p t.spec.address t.station
    → IfSome (due_of p t.station ms) (λ d. to ≤ d + p.lag) → ((q : ℕ) → Over (place p to k t) trace q → SeenBy q ms)
    → (IsOn (after_marks p t.station ms).phase → Minds (place p to k t) trace (after_marks p t.station ms).busy (after_marks p t.station ms).quiet)
    → Bounded (place p to k t) trace
bounds p to trace k t [] fits began on wakes time seen minds q since over still =
    by s.busy wakes.2 (minds on) (first_in_time to p.lag (timer_of p s) (speaks_at s) time)
  where
    s : Station
    s = t.station

    a : ℕ
    a = t.spec.address

    ends : Each (OwnEnds k q) trace
    ends = each_both (BeganBefore to) (OwnStill k to q) (OwnEnds k q) trace (λ e b h. not_now k to q e b h) began still

    by : (busy : Bool) → WakesBy busy s.quiet (tto p a) s.phase → Minds (place p to k t) trace busy s.quiet → InTime to p.lag (if busy then None else phase_timer p s s.phase) → to ≤ q + (tto p a + p.lag)
    by true w m timer = let h = m.0 q over in omega (arith, h)
    by false w m timer =
        let h = m.1 q since (inl over) ends in
        let d = wake_due p a to s s.phase (waits_fit p a fits) wakes.0 wakes.1 w on timer (second_in_time to p.lag (timer_of p s) (speaks_at s) time) in omega (arith, h, d)
bounds p to trace k t (m ∷ ms) fits began on wakes time seen minds q since over still =
    let h = first_in_time to p.lag (Some (seen_at m)) (earlier (timer_of p t.station) (speaks_at t.station)) time in
    let g : seen_at m ≤ q = seen q over in
    omega (arith, h, g)

-- ---- time passes

begun_on : (ph : Phase) (own at : ℕ) → is_offline ph ≡ false → is_offline (phase_begun ph own at) ≡ false
begun_on Offline own at e = e
begun_on PassiveIdle own at e = e
begun_on (Listening doubled) own at e = e
begun_on (Idle refused) own at e = e
begun_on (Claim sent ready) own at e = refl
begun_on (Use asked ready) own at e = refl
begun_on (AwaitData asked retry slot) own at e = refl
begun_on (AwaitStatus of slot) own at e = refl
begun_on (Pass tries ready) own at e = refl
begun_on (Checking tries) own at e = by_test (λ x. is_offline x ≡ false) (nat_lt at own) (Checking tries) (Idle None) (λ _. refl) (λ _. refl)

begin_is : (p : Params) (s : Station) (at seen : ℕ) → is_offline s.phase ≡ false → after_mark p s (Begin at seen) ≡ heard p s (Begin at seen)
begin_is p s at seen e = ap (λ b. if b then s else heard p s (Begin at seen)) e

begin_busy : (p : Params) (s : Station) (at seen : ℕ) → is_offline s.phase ≡ false → (after_mark p s (Begin at seen)).busy ≡ true
begin_busy p s at seen e = ap (λ (z : Station). z.busy) (begin_is p s at seen e)

begin_on : (p : Params) (s : Station) (at seen : ℕ) → is_offline s.phase ≡ false → is_offline (after_mark p s (Begin at seen)).phase ≡ false
begin_on p s at seen e = ap (λ (z : Station). is_offline z.phase) (begin_is p s at seen e) ∙ begun_on s.phase s.own.begin at e

minds_at : (c : Place) (trace : List Entry) (b b' : Bool) (q q' : ℕ) → b' ≡ b → q' ≡ q → Minds c trace b q → Minds c trace b' q'
minds_at c trace b b' q q' eb eq m = subst (λ z. Minds c trace z q') (sym eb) (subst (λ z. Minds c trace b z) (sym eq) m)

latest_from : (c : Place) (trace : List Entry) (to quiet : ℕ) → c.now ≤ to → IsLatest c trace quiet → IsLatest (later c to) trace quiet
latest_from c trace to quiet le latest q since over ends =
    latest q since (⊎_elim (λ (o : Over (later c to) trace q). inl (over_from c trace to q le o)) (λ (n : to ≤ q). inr (omega arith)) over) ends

latest_end : (c : Place) (trace : List Entry) (to quiet : ℕ) → c.now ≤ to → ((q : ℕ) → Over (later c to) trace q → to ≤ q) → IsLatest c trace quiet → IsLatest (later c to) trace (max quiet to)
latest_end c trace to quiet le here latest q since over ends =
    let a = latest_from c trace to quiet le latest q since over ends in
    let b = ⊎_elim (λ (o : Over (later c to) trace q). here q o) (λ (n : to ≤ q). n) over in
    omega (arith, a, b)

-- a station after an End at a clock
after_end : (c : Place) (to : ℕ) (trace : List Entry) (s : Station) (m seen quiet : ℕ) (t : Tap) → is_offline s.phase ≡ false → s.quiet ≡ quiet → m ≡ to → Over (later c to) trace to → IsLatest (later c to) trace (max quiet to)
    → let z = after_mark c.p (after_timer c.p m s) (End m seen (burst_characters c.p.ttd c.tap t trace m)) in Minds (later c to) trace z.busy z.quiet
after_end c to trace s m seen quiet t on same at over latest =
    let u = after_timer c.p m s in
    let z = after_mark c.p u (End m seen (burst_characters c.p.ttd c.tap t trace m)) in
    let k = same-after_timer c.p m s in
    minds_at (later c to) trace false z.busy (max quiet to) z.quiet
    (end-busy c.p u m seen (burst_characters c.p.ttd c.tap t trace m) (k.2 on))
    (end-quiet c.p u m seen (burst_characters c.p.ttd c.tap t trace m) (k.2 on) ∙ ap (λ n. max n m) (k.1 ∙ same) ∙ ap (λ n. max quiet n) at)
    (over, latest)

pass_marks : (c : Place) (to : ℕ) (trace : List Entry) (s : Station) (busy : Bool) (t : Tap) (b e : Option Span) → c.now < to → is_offline s.phase ≡ false → Minds c trace busy s.quiet
    → WindowOf c.now to (sensed c.p.ttd c.tap c.since trace) busy b e
    → let z = after_marks c.p (record s { busy = busy }) (begin_mark to b ++ end_mark c.p.ttd c.tap t trace to e) in Minds (later c to) trace z.busy z.quiet
pass_marks c to trace s false t None None lt on m w =
    let none = none_in c trace to w in (over_later (later c to) trace c.now to (omega arith) (over_to c trace to c.now none m.0), latest_from c trace to s.quiet (omega arith) m.1)
pass_marks c to trace s false t (Some x) None lt on m w =
    let y = record s { busy = false } in
    let u = after_timer c.p x.begin y in
    let k = same-after_timer c.p x.begin y in
    let z = after_mark c.p u (Begin x.begin to) in
    minds_at (later c to) trace true z.busy s.quiet z.quiet (begin_busy c.p u x.begin to (k.2 on)) (begin-quiet c.p u x.begin to ∙ k.1)
    (λ q over. w.2 q (over_of (later c to) trace q over), latest_from c trace to s.quiet (omega arith) m.1)
pass_marks c to trace s false t None (Some y) lt on m w = absurd w
pass_marks c to trace s false t (Some x) (Some y) lt on m w =
    let v = record s { busy = false } in
    let u = after_timer c.p x.begin v in
    let k = same-after_timer c.p x.begin v in
    let z = after_mark c.p u (Begin x.begin to) in
    after_end c to trace z y.end to s.quiet t (begin_on c.p u x.begin to (k.2 on)) (begin-quiet c.p u x.begin to ∙ k.1) w.2 (over_in (later c to) trace to w.3.0)
    (latest_end c trace to s.quiet (omega arith) (λ q over. w.3.1 q (over_of (later c to) trace q over)) m.1)
pass_marks c to trace s true t None None lt on m w = (λ q over. w q (over_of (later c to) trace q over), latest_from c trace to s.quiet (omega arith) m.1)
pass_marks c to trace s true t (Some x) e lt on m w = absurd w
pass_marks c to trace s true t None (Some y) lt on m w =
    after_end c to trace (record s { busy = true }) y.end to s.quiet t on refl w.0 (over_in (later c to) trace to w.1.0)
    (latest_end c trace to s.quiet (omega arith) (λ q over. w.1.1 q (over_of (later c to) trace q over)) m.1)

pub feels_spans : (c : Place) (trace : List Entry) (busy : Bool) → Feels c trace busy → SensesS busy c.now (sensed c.p.ttd c.tap c.since trace)
feels_spans c trace true f = λ q over. f q (over_in c trace q over)
feels_spans c trace false f = over_of c trace c.now f

pub on_phase : (ph : Phase) → IsOn ph → is_offline ph ≡ false
on_phase Offline on = absurd on
on_phase PassiveIdle on = refl
on_phase (Listening doubled) on = refl
on_phase (Idle refused) on = refl
on_phase (Claim sent ready) on = refl
on_phase (Use asked ready) on = refl
on_phase (AwaitData asked retry slot) on = refl
on_phase (AwaitStatus of slot) on = refl
on_phase (Pass tries ready) on = refl
on_phase (Checking tries) on = refl

pass_minds : (c : Place) (to : ℕ) (trace : List Entry) (s : Station) (t : Tap) → t.since ≡ c.since → c.now < to → EachSpan (Solid c.now to) (sensed c.p.ttd c.tap c.since trace) → IsOn s.phase → Minds c trace s.busy s.quiet
    → let z = after_marks c.p s (marks_between c.p.ttd c.tap t trace c.now to) in Minds (later c to) trace z.busy z.quiet
pass_minds c to trace s t since lt solid on m =
    let xs = sensed c.p.ttd c.tap c.since trace in
    subst (λ n. let z = after_marks c.p s (begin_mark to (find (begins_in (sensed c.p.ttd c.tap n trace) c.now to) (sensed c.p.ttd c.tap n trace)) ++ end_mark c.p.ttd c.tap t trace to (find (ends_in (sensed c.p.ttd c.tap n trace) c.now to) (sensed c.p.ttd c.tap n trace))) in Minds (later c to) trace z.busy z.quiet)
    (sym since)
    (pass_marks c to trace s s.busy t (find (begins_in xs c.now to) xs) (find (ends_in xs c.now to) xs) lt (on_phase s.phase on) m
    (window c.now to xs s.busy (find (begins_in xs c.now to) xs) (find (ends_in xs c.now to) xs) lt solid (feels_spans c trace s.busy m.0) refl refl))

seen_pass : (p : Params) (now to : ℕ) (trace : List Entry) (k : ℕ) (t : Tap) (ms : List Mark) → now < to → EachSpan (Solid now to) (sensed p.ttd k t.since trace) → Alert p now trace k (record t { marks = ms })
    → IsOn t.station.phase → (q : ℕ) → Over (place p to k t) trace q → SeenBy q (ms ++ marks_between p.ttd k t trace now to)
seen_pass p now to trace k t [] lt solid o on q over =
    let c = place p now k t in
    let s = t.station in
    let xs = sensed p.ttd k t.since trace in
    seen_new c to trace s.busy t (find (begins_in xs now to) xs) (find (ends_in xs now to) xs) lt
    (window now to xs s.busy (find (begins_in xs now to) xs) (find (ends_in xs now to) xs) lt solid (feels_spans c trace s.busy (o.minds on).0) refl refl) q over
seen_pass p now to trace k t (m ∷ ms) lt solid o on q over = o.seen on q (over_from (place p now k t) trace to q (omega arith) over)

read_pass : (now to : ℕ) (ms ns : List Mark) → now < to → SeenBy now ms → SeenBy to ns → SeenBy to (ms ++ ns)
read_pass now to [] ns lt h g = g
read_pass now to (m ∷ ms) ns lt h g = omega (arith, h)

read_new : (c : Place) (t : Tap) (trace : List Entry) (to : ℕ) (b e : Option Span) → SeenBy to (begin_mark to b ++ end_mark c.p.ttd c.tap t trace to e)
read_new c t trace to None None = tt
read_new c t trace to (Some x) e = omega arith
read_new c t trace to None (Some y) = omega arith

over_part : (now q since : ℕ) (span : Span) → (now ≤ span.begin) ⊎ (span.end ≤ q) → IsOver now q (part_after since span)
over_part now q since span h =
    by_test (IsOver now q) (nat_lt since span.end) (Some (record { begin = max span.begin since; end = span.end })) None
    (λ _. ⊎_elim (λ (a : now ≤ span.begin). inl (omega arith)) (λ (b : span.end ≤ q). inr b) h) (λ _. tt)

-- what is not active in a stretch is over at the tap, by its beginning and the rest of the way
apart_over : (reach delay tap since m u : ℕ) (e : Entry) → reach ≤ delay → IsApart reach tap m u e → IsOver u (m + (delay - reach)) (heard_span delay tap since e)
apart_over reach delay tap since m u (Noise span) short h = over_part u (m + (delay - reach)) since span (⊎_elim (λ (a : u ≤ span.begin). inl a) (λ (b : span.end ≤ m). inr (omega arith)) h)
apart_over reach delay tap since m u (Sent r) short h =
    by_test (λ o. IsOver u (m + (delay - reach)) (option_and_then (part_after since) o)) (r.tap == tap || is_unheard (slice_get r.heard tap)) None (Some (reaches delay r)) (λ _. tt)
    (λ none. over_part u (m + (delay - reach)) since (reaches delay r)
    (⊎_elim (λ (a : u ≤ r.begin + reach). inl (omega (arith, a))) (λ (b : r.end + reach ≤ m). inr (omega (arith, b)))
    (h.1 (eqb-false r.tap tap (or_parts (r.tap == tap) (is_unheard (slice_get r.heard tap)) none).0))))

-- and the tap's own telegrams have ended by then
apart_ends : (reach tap m u q now : ℕ) (e : Entry) → now < u → m ≤ q → BeganBefore (now + 1) e → IsApart reach tap m u e → OwnEnds tap q e
apart_ends reach tap m u q now (Noise span) lt le began h = tt
apart_ends reach tap m u q now (Sent r) lt le began h = λ mine. ⊎_elim (λ (a : u ≤ r.begin). absurd (omega (arith, a, began))) (λ (b : r.end ≤ m). omega (arith, b)) (h.0 mine)

ends_still : (tap now q : ℕ) (e : Entry) → OwnEnds tap q e → OwnStill tap now q e
ends_still tap now q (Noise span) h = tt
ends_still tap now q (Sent r) h = λ mine. inr (h mine)

over_before : (now to u q : ℕ) (o : Option Span) → q < to → SolidO now to o → IsOver u q o → IsOver u now o
over_before now to u q None lt solid h = tt
over_before now to u q (Some x) lt solid h =
    ⊎_elim (λ (a : u ≤ x.begin). inl a)
    (λ (b : x.end ≤ q). ⊎_elim (λ (c : now < x.end). absurd (let d = solid.1 c in omega (arith, b, d))) (λ (c : x.end ≤ now). inr c) (cases_lt now x.end)) h

sooner : (u to lag : ℕ) (o : Option ℕ) → u ≤ to → IfSome o (λ d. to ≤ d + lag) → IfSome o (λ d. u ≤ d + lag)
sooner u to lag None le h = tt
sooner u to lag (Some d) le h = omega (arith, h)

-- a stretch of silence that ends within a pass: nothing that the tap hears begins on the way, and it was due within its time-out
recalls_pass : (p : Params) (now to : ℕ) (trace : List Entry) (k : ℕ) (t : Tap) → LeavesTime p → now < to → Each (BeganBefore (now + 1)) trace → EachSpan (Solid now to) (sensed p.ttd k t.since trace)
    → IfSome (due_of p t.station t.marks) (λ d. to ≤ d + p.lag) → IsOn t.station.phase → Alert p now trace k t → Recalls p to trace k t.since t.spec.address
recalls_pass p now to trace k t fits later_ began solid time on o reach m u short since lt le apart =
    ⊎_elim
    (λ (new : now < u). ⊎_elim (λ (early : m + (p.ttd - reach) < to). let h = within new early in omega (arith, h)) (λ (long : to ≤ m + (p.ttd - reach)). omega (arith, long, le)) (cases_lt (m + (p.ttd - reach)) to))
    (λ (old : u ≤ now). o.recalls on reach m u short since lt old apart)
    (cases_lt now u)
  where
    q : ℕ
    q = m + (p.ttd - reach)

    c : Place
    c = place p now k t

    over : Over (later c u) trace q
    over = each_map (IsApart reach k m u) (λ e. IsOver u q (heard_span p.ttd k t.since e)) trace (λ e h. apart_over reach p.ttd k t.since m u e short h) apart

    over_now : q < to → Over (later c u) trace now
    over_now early = each_both (λ e. SolidO now to (heard_span p.ttd k t.since e)) (λ e. IsOver u q (heard_span p.ttd k t.since e)) (λ e. IsOver u now (heard_span p.ttd k t.since e)) trace
        (λ e s h. over_before now to u q (heard_span p.ttd k t.since e) early s h) (from_spans (SolidO now to) p.ttd k t.since trace tt solid) over

    ends : now < u → Each (OwnEnds k q) trace
    ends new = each_both (BeganBefore (now + 1)) (IsApart reach k m u) (OwnEnds k q) trace (λ e b h. apart_ends reach k m u q now e new (omega arith) b h) began apart

    feels : (busy : Bool) → now < u → q < to → Feels c trace busy → Feels (later c u) trace busy
    feels true new early f = absurd (let h = f now (over_from c trace u now (omega arith) (over_now early)) in omega (arith, h))
    feels false new early f = over_later (later c u) trace now u (omega arith) (over_now early)

    minds : now < u → q < to → IsOn (view p t).phase → Minds (later c u) trace (view p t).busy (view p t).quiet
    minds new early on = let h = o.minds on in (feels (view p t).busy new early h.0, latest_from c trace u (view p t).quiet (omega arith) h.1)

    within : now < u → q < to → u ≤ q + (tto p t.spec.address + p.lag)
    within new early =
        bounds p u trace k t t.marks fits (each_map (BeganBefore (now + 1)) (BeganBefore u) trace (λ e b. omega (arith, b, new)) began) on o.wakes
        (sooner u to p.lag (due_of p t.station t.marks) le time) (λ r past. o.seen on r (over_from c trace u r (omega arith) past)) (minds new early)
        q (omega (arith, since)) over (each_map (OwnEnds k q) (OwnStill k u q) trace (λ e h. ends_still k u q e h) (ends new))

-- a tap as time passes, on the trace as it was
pub alert_pass : (p : Params) (now to : ℕ) (trace : List Entry) (k : ℕ) (t : Tap) → LeavesTime p → now < to → t.running ≡ true → Each (BeganBefore (now + 1)) trace → EachSpan (Solid now to) (sensed p.ttd k t.since trace)
    → is_late p to t ≡ false → Alert p now trace k t → Alert p to trace k (record t { marks = t.marks ++ new_marks p.ttd k t trace now to })
alert_pass p now to trace k t fits lt running began solid late o =
    subst (λ ms. Alert p to trace k (record t { marks = t.marks ++ ms })) (sym (ap (λ b. if b then ns else []) running)) (record {
      began = omega (arith, o.began);
      in_time = time;
      read = read_pass now to t.marks ns lt o.read (read_new c t trace to (find (begins_in xs now to) xs) (find (ends_in xs now to) xs));
      seen = λ on q over. seen_pass p now to trace k t t.marks lt solid o on q over;
      minds = minds;
      wakes = o.wakes;
      request = o.request;
      recalls = λ on. recalls_pass p now to trace k t fits lt began solid (overdue p.lag to (due_of p t.station t.marks) (in_time t.running running late)) on o;
    })
  where
    c : Place
    c = place p now k t

    xs : List Span
    xs = sensed p.ttd k t.since trace

    ns : List Mark
    ns = marks_between p.ttd k t trace now to

    in_time : (b : Bool) → b ≡ true → (b && is_overdue p.lag to (due_of p t.station t.marks)) ≡ false → is_overdue p.lag to (due_of p t.station t.marks) ≡ false
    in_time true e f = f
    in_time false e f = absurd cc

    time : IfSome (due_of p t.station (t.marks ++ ns)) (λ d. to ≤ d + p.lag)
    time = due_new p to t.station t.marks ns (seen_at_window c t trace to (find (begins_in xs now to) xs) (find (ends_in xs now to) xs)) (overdue p.lag to (due_of p t.station t.marks) (in_time t.running running late))

    off : (view p t).phase ≡ Offline → IsOn (after_marks p (view p t) ns).phase → ⊥
    off e on = at_state (λ z. IsOn (after_marks p z ns).phase → ⊥) (view p t) Offline (view p t).busy e refl (subst (λ z. IsOn z.phase → ⊥) (sym (offline_marks p (view p t) (view p t).busy ns)) (λ h. h)) on

    minds : IsOn (after_marks p t.station (t.marks ++ ns)).phase → Minds (later c to) trace (after_marks p t.station (t.marks ++ ns)).busy (after_marks p t.station (t.marks ++ ns)).quiet
    minds = subst (λ z. IsOn z.phase → Minds (later c to) trace z.busy z.quiet) (sym (append_marks p t.station t.marks ns))
        (λ on. ⊎_elim (λ (e : (view p t).phase ≡ Offline). absurd (off e on)) (λ (h : IsOn (view p t).phase). pass_minds c to trace (view p t) t refl lt solid h (o.minds h)) (on_or_off (view p t).phase))

-- ---- a turn

abbrev pub OnBoth : Params → Tap → Station → Type 0
OnBoth p t s = IsOn s.phase → IsOn (view p t).phase × IsOn t.station.phase

alert_said : (p : Params) (now : ℕ) (trace : List Entry) (k : ℕ) (t : Tap) (taps : List Tap) (said : Option (List ℕ)) (s : Station) → Wakes p t.spec.address s → HasOpenRequest s → s.busy ≡ (view p t).busy
    → s.quiet ≡ quiet_after (view p t).quiet said now → IsDueLater p s now → OnBoth p t s → Alert p now trace k t → Alert p now (with_said k said now taps trace) k (record t { station = s; marks = [] })
alert_said p now trace k t taps None s wakes open_ eb eq due both o = record {
  began = o.began;
  in_time = later_in_time now p.lag (due_of p s []) due;
  read = tt;
  seen = λ on q over. tt;
  minds = λ on. minds_at (place p now k t) trace (view p t).busy s.busy (view p t).quiet s.quiet eb eq (o.minds (both on).0);
  wakes = wakes;
  request = open_;
  recalls = λ on. o.recalls (both on).1;
}
alert_said p now trace k t taps (Some octets) s wakes open_ eb eq due both o =
    let c = place p now k t in
    let x = sending k octets now taps in
    let trace' = with_entry (Sent x) trace in
    let l = alert_same p now trace trace' k t (same_with c trace (Sent x) (new_sent c x (omega arith))) o in
    record {
      began = o.began;
      in_time = later_in_time now p.lag (due_of p s []) due;
      read = tt;
      seen = λ on q over. tt;
      minds = λ on. let m = l.minds (both on).0 in
          minds_at c trace' (view p t).busy s.busy (max (view p t).quiet x.end) s.quiet eb eq
          (m.0, λ q since over ends. let a = m.1 q since over ends in let b = (each_without (OwnEnds k q) (Sent x) trace ends).0 refl in omega (arith, a, b));
      wakes = wakes;
      request = open_;
      recalls = λ on. l.recalls (both on).1;
    }

pub on_both : (p : Params) (now : ℕ) (t : Tap) → OnBoth p t (turn_of p t.station t.marks now).0
on_both p now t on =
    let v = view p t in
    let on_view : IsOn v.phase = ⊎_elim (λ (e : v.phase ≡ Offline). absurd (subst (λ ph. IsOn ph → ⊥) (sym (ap (λ (z : Station × Option (List ℕ)). z.0.phase) (turn_of-offline p v [] now e) ∙ e)) (λ h. h) on)) (λ (h : IsOn v.phase). h) (on_or_off v.phase) in
    (on_view, view_on p t.station t.marks on_view)

pub alert_turn : (p : Params) (now : ℕ) (trace : List Entry) (k : ℕ) (t : Tap) (taps : List Tap) → LeavesTime p → Alert p now trace k t
    → let turn = turn_of p t.station t.marks now in Alert p now (with_said k turn.1 now taps trace) k (record t { station = turn.0; marks = [] })
alert_turn p now trace k t taps fits o =
    let turn = turn_of p t.station t.marks now in
    let said = said-turn_of p t.spec.address t.station t.marks now (waits_fit p t.spec.address fits) o.wakes o.request in
    alert_said p now trace k t taps turn.1 turn.0 said.0 (left-turn_of p t.station t.marks now o.request) said.1 said.2 (later-turn_of p t.station t.marks now) (on_both p now t) o
