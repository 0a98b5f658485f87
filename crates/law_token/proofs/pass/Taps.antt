-- Time passes: what each running tap knows and how it stands afterwards, on the trace as it was.
use Rattle.std.proofs.Common.{◌≡◌, ℕ, ◌+◌, ◌<◌, ◌≤◌, ◌⊎◌, inl, inr, ⊎_elim, Bool, true, false, if◌then◌else◌, ◌&&◌, ◌||◌, List, [], ◌∷◌, ◌++◌, refl, sym, ap, subst, arith, Option, Some, None}
use Rattle.std.specs.Prelude.{max, find, is_some, IfSome}
use Rattle.std.proofs.lemmas.Bool.{ltb-false, cases_lt}
use Rattle.pb_telegram.specs.declared.chars.RxChar.{RxChar}
use Rattle.pb_timers.specs.Timers.{Params}
use Rattle.law_turn.specs.Spans.{Span}
use Rattle.law_turn.specs.Arrivals.{arrival_of}
use Rattle.law_turn.specs.Laws.{WaitsInPlace, IsSilentWhileBusy}
use Rattle.law_turn.specs.Marks.{Mark, Begin, End, Alternates, moment_of, seen_at}
use Rattle.law_turn.specs.Phases.{Phase, Offline, PassiveIdle, Listening, Idle, Claim, Use, AwaitData, AwaitStatus, Pass, Checking, is_offline}
use Rattle.law_turn.specs.Stations.{Station, Reply, timer_of, speaks_at, earlier, first_seen, due_of}
use Rattle.law_turn.specs.Hearing.{after_timer, after_mark, ended}
use Rattle.law_turn.specs.Turns.{after_marks}
use Rattle.law_turn.proofs.Busy.{silent-after_marks}
use Rattle.law_turn.proofs.Moments.{after_marks-is_offline}
use Rattle.law_model.specs.Trace.{Record, Entry}
use Rattle.law_model.specs.Medium.{Tap, sensed, begins_in, ends_in, begin_mark, end_mark, burst_characters, marks_between, new_marks}
use Rattle.law_runs.specs.Premises.{is_overdue, is_late}
use Rattle.law_token.specs.Lists.{Each}
use Rattle.law_token.specs.Places.{LeavesTime, heard_span, IsOver, Place, Over, Spares}
use Rattle.law_token.specs.Tokens.{Offers, Doomed}
use Rattle.law_token.specs.Views.{Waits, Armed, Awaits, ViewOf, Senses, Knows, KnowsIn, SeenBy, view, place, TapHolds, IsOn}
use Rattle.law_token.proofs.bus.Lists.{each_map, each_both}
use Rattle.law_token.proofs.bus.Live.{offline_marks, on_or_off}
use Rattle.law_model.proofs.Window.{EachSpan, Solid, OverSince, NoBegin, SensesS, WindowOf, window}
use Rattle.law_token.proofs.bus.Spans.{to_spans, from_spans}
use Rattle.law_token.proofs.pass.Marks.{later, recent_from, over_from, Reads, begin_reads, end_reads, Brings, Ends, BeginOk, at_state}

-- ---- nothing is told

abbrev pub BeginsNot : ℕ → ℕ → Option Span → Type 0
BeginsNot from to None = Unit {0}
BeginsNot from to (Some x) = (x.begin < from) ⊎ (to ≤ x.begin)

abbrev pub NoneBegins : Place → List Entry → ℕ → Type 0
NoneBegins c trace to = Each (λ e. BeginsNot c.now to (heard_span c.p.ttd c.tap c.since e)) trace

pub over_to : (c : Place) (trace : List Entry) (to q : ℕ) → NoneBegins c trace to → Over c trace q → Over (later c to) trace q
over_to c trace to q none over =
    each_both (λ e. BeginsNot c.now to (heard_span c.p.ttd c.tap c.since e)) (λ e. IsOver c.now q (heard_span c.p.ttd c.tap c.since e)) (λ e. IsOver to q (heard_span c.p.ttd c.tap c.since e)) trace
    (λ e a b. one (heard_span c.p.ttd c.tap c.since e) a b) none over
  where
    one : (o : Option Span) → BeginsNot c.now to o → IsOver c.now q o → IsOver to q o
    one None a b = tt
    one (Some x) a b = ⊎_elim (λ (u : x.begin < c.now). ⊎_elim (λ (v : c.now ≤ x.begin). absurd (omega arith)) (λ (v : x.end ≤ q). inr v) b) (λ (u : to ≤ x.begin). inl u) a

doomed_to : (c : Place) (trace : List Entry) (to : ℕ) (own : Span) → NoneBegins c trace to → Doomed c trace own → Doomed (later c to) trace own
doomed_to c trace to own none d spares =
    d (each_both (λ e. BeginsNot c.now to (heard_span c.p.ttd c.tap c.since e)) (λ e. Spares to (own.end + c.p.tsl) (heard_span c.p.ttd c.tap c.since e)) (λ e. Spares c.now (own.end + c.p.tsl) (heard_span c.p.ttd c.tap c.since e)) trace
    (λ e a b. one (heard_span c.p.ttd c.tap c.since e) a b) none spares)
  where
    one : (o : Option Span) → BeginsNot c.now to o → Spares to (own.end + c.p.tsl) o → Spares c.now (own.end + c.p.tsl) o
    one None a b = tt
    one (Some x) a b = ⊎_elim (λ (u : x.begin < c.now). inl u) (λ (u : to ≤ x.begin). ⊎_elim (λ (v : x.begin < to). absurd (omega arith)) (λ (v : own.end + c.p.tsl ≤ x.begin). inr v) b) a

armed_to : (c : Place) (trace : List Entry) (to quiet : ℕ) (own : Span) → NoneBegins c trace to → Armed c trace quiet own → Armed (later c to) trace quiet own
armed_to c trace to quiet own none a = record { still = a.still; clean = over_to c trace to own.begin none a.clean }

waits_to : (c : Place) (to : ℕ) (busy : Bool) (quiet : ℕ) (reply : Option Reply) → Waits c busy quiet reply → Waits (later c to) busy quiet reply
waits_to c to true quiet reply w = w
waits_to c to false quiet reply w = w

awaits_to : (c : Place) (trace : List Entry) (to : ℕ) (busy : Bool) (quiet : ℕ) (own : Span) (retry : Option ℕ) (slot : Bool) → (busy ≡ false → NoneBegins c trace to)
    → Awaits c trace busy quiet own retry slot → Awaits (later c to) trace busy quiet own retry slot
awaits_to c trace to true quiet own retry slot none a = a
awaits_to c trace to false quiet own None slot none a = (a.0, armed_to c trace to quiet own (none refl) a.1)
awaits_to c trace to false quiet own (Some m) slot none a = a

view_to : (c : Place) (trace : List Entry) (to : ℕ) (last : Option Record) (ph : Phase) (busy : Bool) (quiet : ℕ) (own : Span) (reply : Option Reply) → c.now ≤ to → (busy ≡ false → NoneBegins c trace to)
    → ViewOf c trace last ph busy quiet own reply → ViewOf (later c to) trace last ph busy quiet own reply
view_to c trace to last Offline busy quiet own reply le none v = tt
view_to c trace to last PassiveIdle busy quiet own reply le none v = waits_to c to busy quiet reply v
view_to c trace to last (Listening doubled) busy quiet own reply le none v = waits_to c to busy quiet reply v
view_to c trace to last (Idle refused) busy quiet own reply le none v = waits_to c to busy quiet reply v
view_to c trace to last (Claim sent ready) busy quiet own reply le none v = (v.0, v.1, v.2, v.3, recent_from c trace to quiet le v.4)
view_to c trace to last (Use asked ready) busy quiet own reply le none v = (v.0, v.1, v.2, recent_from c trace to quiet le v.3, v.4)
view_to c trace to last (AwaitData asked retry slot) busy quiet own reply le none v = (awaits_to c trace to busy quiet own retry slot none v.0, v.1, recent_from c trace to quiet le v.2)
view_to c trace to last (AwaitStatus of slot) busy quiet own reply le none v = (awaits_to c trace to busy quiet own None slot none v.0, v.1, recent_from c trace to quiet le v.2)
view_to c trace to last (Pass tries ready) busy quiet own reply le none v = v
view_to c trace to last (Checking tries) busy quiet own reply le none v = (
  v.0,
  armed_to c trace to quiet own (none v.0) v.1,
  recent_from c trace to quiet le v.2,
  ⊎_elim (λ (o : Offers last c.tap own). inl o) (λ (d : Doomed c trace own). inr (doomed_to c trace to own (none v.0) d)) v.3,
)

-- ---- what is known later

knows_to : (c : Place) (trace : List Entry) (to : ℕ) (busy busy' : Bool) (quiet quiet' : ℕ) (own : Span) → c.now ≤ to → Senses (later c to) trace busy' quiet' → own.end ≤ quiet' → (quiet' ≤ to) ⊎ (quiet' ≡ own.end)
    → Knows c trace busy quiet own → Knows (later c to) trace busy' quiet' own
knows_to c trace to busy busy' quiet quiet' own le senses ended by k = record {
  senses = senses;
  started = k.started;
  begun = omega (arith, k.begun);
  order = k.order;
  ended = ended;
  quiet_by = by;
  split = k.split;
  owns = k.owns;
  sent = k.sent;
}

quiet_to : (c : Place) (to quiet : ℕ) (own : Span) → c.now ≤ to → (quiet ≤ c.now) ⊎ (quiet ≡ own.end) → (quiet ≤ to) ⊎ (quiet ≡ own.end)
quiet_to c to quiet own le h = ⊎_elim (λ (a : quiet ≤ c.now). inl (omega arith)) (λ (b : quiet ≡ own.end). inr b) h

ends_to : (c : Place) (trace : List Entry) (to : ℕ) (busy : Bool) (quiet : ℕ) (own : Span) → c.now ≤ to → Over (later c to) trace to → ((q : ℕ) → Over (later c to) trace q → to ≤ q) → Knows c trace busy quiet own
    → Ends (later c to) trace quiet own
ends_to c trace to busy quiet own le over here k = record {
  knows = knows_to c trace to busy false quiet (max quiet to) own le (over_more (max quiet to) (omega arith), over) (omega (arith, k.ended))
      (⊎_elim (λ (a : quiet ≤ c.now). inl (omega arith)) (λ (b : quiet ≡ own.end). by_max b) k.quiet_by) k;
  here = here;
  before = quiet_to c to quiet own le k.quiet_by;
  ended = k.ended;
}
  where
    over_more : (u : ℕ) → to ≤ u → Over (later c to) trace u
    over_more u lu = each_map (λ e. IsOver to to (heard_span c.p.ttd c.tap c.since e)) (λ e. IsOver to u (heard_span c.p.ttd c.tap c.since e)) trace (λ e h. one (heard_span c.p.ttd c.tap c.since e) h) over
      where
        one : (o : Option Span) → IsOver to to o → IsOver to u o
        one None h = tt
        one (Some x) h = ⊎_elim (λ (a : to ≤ x.begin). inl a) (λ (b : x.end ≤ to). inr (omega arith)) h

    by_max : quiet ≡ own.end → (max quiet to ≤ to) ⊎ (max quiet to ≡ own.end)
    by_max e = ⊎_elim (λ (b : to < quiet). inr (omega arith)) (λ (a : quiet ≤ to). inl (omega arith)) (cases_lt to quiet)

-- ---- what the window says of the trace

pub over_of : (c : Place) (trace : List Entry) (q : ℕ) → Over c trace q → OverSince c.now q (sensed c.p.ttd c.tap c.since trace)
over_of c trace q over = to_spans (IsOver c.now q) c.p.ttd c.tap c.since trace over

pub over_in : (c : Place) (trace : List Entry) (q : ℕ) → OverSince c.now q (sensed c.p.ttd c.tap c.since trace) → Over c trace q
over_in c trace q over = from_spans (IsOver c.now q) c.p.ttd c.tap c.since trace tt over

pub none_in : (c : Place) (trace : List Entry) (to : ℕ) → NoBegin c.now to (sensed c.p.ttd c.tap c.since trace) → NoneBegins c trace to
none_in c trace to none = from_spans (BeginsNot c.now to) c.p.ttd c.tap c.since trace tt none

pub senses_of : (c : Place) (trace : List Entry) (busy : Bool) (quiet : ℕ) → Senses c trace busy quiet → SensesS busy c.now (sensed c.p.ttd c.tap c.since trace)
senses_of c trace true quiet s = λ q over. s q (over_in c trace q over)
senses_of c trace false quiet s = over_of c trace c.now s.1

-- ---- the marks

-- a busy station reads an End
end_marked : (c : Place) (trace : List Entry) (last : Option Record) (y : Station) (limit seen : ℕ) (chars : List RxChar) → LeavesTime c.p → y.busy ≡ true → Ends c trace y.quiet y.own → Brings c last y.address y.own y.phase (arrival_of chars)
    → ViewOf c trace last y.phase true y.quiet y.own y.reply → WaitsInPlace y.phase y.reply → Reads c trace last (after_mark c.p (after_timer c.p limit y) (End c.now seen chars))
end_marked c trace last y limit seen chars fits busy e br v i =
    at_state (λ z. Reads c trace last (after_mark c.p (after_timer c.p limit z) (End c.now seen chars))) y y.phase true refl busy
    (by_phase y.phase br v i)
  where
    by_phase : (ph : Phase) → Brings c last y.address y.own ph (arrival_of chars) → ViewOf c trace last ph true y.quiet y.own y.reply → WaitsInPlace ph y.reply → Reads c trace last (after_mark c.p (after_timer c.p limit (record y { phase = ph; busy = true })) (End c.now seen chars))
    by_phase Offline b v i = (tt, tt)
    by_phase PassiveIdle b v i = end_reads c trace last y PassiveIdle (arrival_of chars) fits e b v i
    by_phase (Listening doubled) b v i = end_reads c trace last y (Listening doubled) (arrival_of chars) fits e b v i
    by_phase (Idle refused) b v i = end_reads c trace last y (Idle refused) (arrival_of chars) fits e b v i
    by_phase (Claim sent ready) b v i = end_reads c trace last y (Claim sent ready) (arrival_of chars) fits e b v i
    by_phase (Use asked ready) b v i = end_reads c trace last y (Use asked ready) (arrival_of chars) fits e b v i
    by_phase (AwaitData asked retry slot) b v i = end_reads c trace last y (AwaitData asked retry slot) (arrival_of chars) fits e b v i
    by_phase (AwaitStatus of slot) b v i = end_reads c trace last y (AwaitStatus of slot) (arrival_of chars) fits e b v i
    by_phase (Pass tries ready) b v i = end_reads c trace last y (Pass tries ready) (arrival_of chars) fits e b v i
    by_phase (Checking tries) b v i = end_reads c trace last y (Checking tries) (arrival_of chars) fits e b v i

pub knows_in : (c : Place) (trace : List Entry) (ph : Phase) (busy : Bool) (quiet : ℕ) (own : Span) → Knows c trace busy quiet own → KnowsIn c trace ph busy quiet own
knows_in c trace Offline busy quiet own k = tt
knows_in c trace PassiveIdle busy quiet own k = k
knows_in c trace (Listening doubled) busy quiet own k = k
knows_in c trace (Idle refused) busy quiet own k = k
knows_in c trace (Claim sent ready) busy quiet own k = k
knows_in c trace (Use asked ready) busy quiet own k = k
knows_in c trace (AwaitData asked retry slot) busy quiet own k = k
knows_in c trace (AwaitStatus of slot) busy quiet own k = k
knows_in c trace (Pass tries ready) busy quiet own k = k
knows_in c trace (Checking tries) busy quiet own k = k

pub rewrite_state : (P : Bool → ℕ → Span → Type 0) (b b' : Bool) (q q' : ℕ) (o o' : Span) → b' ≡ b → q' ≡ q → o' ≡ o → P b q o → P b' q' o'
rewrite_state P b b' q q' o o' eb eq eo h = subst (λ z. P z q' o') (sym eb) (subst (λ z. P b z o') (sym eq) (subst (λ z. P b q z) (sym eo) h))

-- a Begin alone
begin_alone : (c : Place) (trace : List Entry) (last : Option Record) (s y : Station) → Knows c trace true s.quiet s.own → BeginOk c trace last s y → Reads c trace last y
begin_alone c trace last s y k b = (
  rewrite_state (λ b q o. KnowsIn c trace y.phase b q o) true y.busy s.quiet y.quiet s.own y.own b.1 b.2 b.3 (knows_in c trace y.phase true s.quiet s.own k),
  rewrite_state (λ b q o. ViewOf c trace last y.phase b q o y.reply) true y.busy s.quiet y.quiet s.own y.own b.1 b.2 b.3 b.0,
)

-- and with its End
begin_end : (c : Place) (trace : List Entry) (last : Option Record) (s y : Station) (limit seen : ℕ) (chars : List RxChar) → LeavesTime c.p → BeginOk c trace last s y → WaitsInPlace y.phase y.reply → Ends c trace s.quiet s.own → Brings c last s.address s.own y.phase (arrival_of chars)
    → Reads c trace last (after_mark c.p (after_timer c.p limit y) (End c.now seen chars))
begin_end c trace last s y limit seen chars fits b i e br =
    end_marked c trace last y limit seen chars fits b.1
    (rewrite_state (λ z q o. Ends c trace q o) true y.busy s.quiet y.quiet s.own y.own b.1 b.2 b.3 e)
    (subst (λ a. Brings c last a y.own y.phase (arrival_of chars)) (sym b.4) (subst (λ o. Brings c last s.address o y.phase (arrival_of chars)) (sym b.3) br))
    (rewrite_state (λ z q o. ViewOf c trace last y.phase true q o y.reply) true y.busy s.quiet y.quiet s.own y.own b.1 b.2 b.3 b.0) i

-- the phase in which a station is when something ends at the end of a pass
abbrev pub phase_at : Place → ℕ → Station → Phase → Bool → Option Span → Phase
phase_at c to s ph busy None = ph
phase_at c to s ph busy (Some x) = (after_mark c.p (after_timer c.p x.begin (record s { phase = ph; busy = busy })) (Begin x.begin to)).phase

-- what a view becomes by the marks of a pass
pub pass_reads : (c : Place) (to : ℕ) (trace : List Entry) (last : Option Record) (s : Station) (ph : Phase) (busy : Bool) (t : Tap) (b e : Option Span) → LeavesTime c.p → c.now < to → IsOn ph
    → Knows c trace busy s.quiet s.own → ViewOf c trace last ph busy s.quiet s.own s.reply → IsSilentWhileBusy (record s { phase = ph; busy = busy }) → WindowOf c.now to (sensed c.p.ttd c.tap c.since trace) busy b e
    → Brings (later c to) last s.address s.own (phase_at c to s ph busy b) (arrival_of (burst_characters c.p.ttd c.tap t trace to))
    → Reads (later c to) trace last (after_marks c.p (record s { phase = ph; busy = busy }) (begin_mark to b ++ end_mark c.p.ttd c.tap t trace to e))
pass_reads c to trace last s ph false t None None fits later_ on k v i w br =
    let none = none_in c trace to w in (
      knows_in (later c to) trace ph false s.quiet s.own
          (knows_to c trace to false false s.quiet s.quiet s.own (omega arith) (over_to c trace to s.quiet none k.senses.0, over_now none) k.ended (quiet_to c to s.quiet s.own (omega arith) k.quiet_by) k),
      view_to c trace to last ph false s.quiet s.own s.reply (omega arith) (λ _. none) v,
    )
  where
    over_now : NoneBegins c trace to → Over (later c to) trace to
    over_now none = each_map (λ e. IsOver to c.now (heard_span c.p.ttd c.tap c.since e)) (λ e. IsOver to to (heard_span c.p.ttd c.tap c.since e)) trace (λ e h. one (heard_span c.p.ttd c.tap c.since e) h) (over_to c trace to c.now none k.senses.1)
      where
        one : (o : Option Span) → IsOver to c.now o → IsOver to to o
        one None h = tt
        one (Some x) h = ⊎_elim (λ (a : to ≤ x.begin). inl a) (λ (b : x.end ≤ c.now). inr (omega (arith, later_))) h
pass_reads c to trace last s ph false t (Some x) None fits later_ on k v i w br =
    begin_alone (later c to) trace last s (after_mark c.p (after_timer c.p x.begin (record s { phase = ph; busy = false })) (Begin x.begin to))
    (knows_to c trace to false true s.quiet s.quiet s.own (omega arith) (λ q over. w.2 q (over_of (later c to) trace q over)) k.ended (quiet_to c to s.quiet s.own (omega arith) k.quiet_by) k)
    (begin_reads c to x.begin to trace last s ph (omega arith) (omega (arith, k.begun, w.0)) on v i.in_place)
pass_reads c to trace last s ph false t None (Some y) fits later_ on k v i w br = absurd w
pass_reads c to trace last s ph false t (Some x) (Some y) fits later_ on k v i w br =
    subst (λ m. Reads (later c to) trace last (after_mark c.p (after_timer c.p m (after_mark c.p (after_timer c.p x.begin (record s { phase = ph; busy = false })) (Begin x.begin to))) (End m to (burst_characters c.p.ttd c.tap t trace m)))) (sym w.2)
    (begin_end (later c to) trace last s (after_mark c.p (after_timer c.p x.begin (record s { phase = ph; busy = false })) (Begin x.begin to)) to to (burst_characters c.p.ttd c.tap t trace to) fits
    (begin_reads c to x.begin to trace last s ph (omega arith) (omega (arith, k.begun, w.0)) on v i.in_place)
    (silent-after_marks c.p (record s { phase = ph; busy = false }) (Begin x.begin to ∷ []) true refl i).in_place
    (ends_to c trace to false s.quiet s.own (omega arith) (over_in (later c to) trace to w.3.0) (λ q over. w.3.1 q (over_of (later c to) trace q over)) k) br)
pass_reads c to trace last s ph true t None None fits later_ on k v i w br = (
  knows_in (later c to) trace ph true s.quiet s.own
      (knows_to c trace to true true s.quiet s.quiet s.own (omega arith) (λ q over. w q (over_of (later c to) trace q over)) k.ended (quiet_to c to s.quiet s.own (omega arith) k.quiet_by) k),
  view_to c trace to last ph true s.quiet s.own s.reply (omega arith) (λ f. absurd cc) v,
)
pass_reads c to trace last s ph true t (Some x) e fits later_ on k v i w br = absurd w
pass_reads c to trace last s ph true t None (Some y) fits later_ on k v i w br =
    subst (λ m. Reads (later c to) trace last (after_mark c.p (after_timer c.p m (record s { phase = ph; busy = true })) (End m to (burst_characters c.p.ttd c.tap t trace m)))) (sym w.0)
    (end_marked (later c to) trace last (record s { phase = ph; busy = true }) to to (burst_characters c.p.ttd c.tap t trace to) fits refl
    (ends_to c trace to true s.quiet s.own (omega arith) (over_in (later c to) trace to w.1.0) (λ q over. w.1.1 q (over_of (later c to) trace q over)) k) br (view_to c trace to last ph true s.quiet s.own s.reply (omega arith) (λ f. absurd cc) v) i.in_place)

-- ---- a tap

pub append_marks : (p : Params) (s : Station) (ms ns : List Mark) → after_marks p s (ms ++ ns) ≡ after_marks p (after_marks p s ms) ns
append_marks p s [] ns = refl
append_marks p s (m ∷ ms) ns = append_marks p (after_mark p (after_timer p (moment_of m) s) m) ms ns

pub knows_on : (c : Place) (trace : List Entry) (ph : Phase) (busy : Bool) (quiet : ℕ) (own : Span) → IsOn ph → KnowsIn c trace ph busy quiet own → Knows c trace busy quiet own
knows_on c trace Offline busy quiet own on k = absurd on
knows_on c trace PassiveIdle busy quiet own on k = k
knows_on c trace (Listening doubled) busy quiet own on k = k
knows_on c trace (Idle refused) busy quiet own on k = k
knows_on c trace (Claim sent ready) busy quiet own on k = k
knows_on c trace (Use asked ready) busy quiet own on k = k
knows_on c trace (AwaitData asked retry slot) busy quiet own on k = k
knows_on c trace (AwaitStatus of slot) busy quiet own on k = k
knows_on c trace (Pass tries ready) busy quiet own on k = k
knows_on c trace (Checking tries) busy quiet own on k = k

-- whatever a telegram that ends now is to a tap whose station is not offline
abbrev pub BringsTo : Place → ℕ → Option Record → Station → Tap → List Entry → Type 0
BringsTo c to last s t trace =
    IsOn s.phase → Brings (later c to) last s.address s.own (phase_at c to s s.phase s.busy (find (begins_in (sensed c.p.ttd c.tap c.since trace) c.now to) (sensed c.p.ttd c.tap c.since trace))) (arrival_of (burst_characters c.p.ttd c.tap t trace to))

reads_on : (c : Place) (to : ℕ) (trace : List Entry) (last : Option Record) (s : Station) (t : Tap) → t.since ≡ c.since → LeavesTime c.p → c.now < to → EachSpan (Solid c.now to) (sensed c.p.ttd c.tap c.since trace)
    → IsOn s.phase → Reads c trace last s → IsSilentWhileBusy s → BringsTo c to last s t trace → Reads (later c to) trace last (after_marks c.p s (marks_between c.p.ttd c.tap t trace c.now to))
reads_on c to trace last s t since fits lt solid on r i br =
    let xs = sensed c.p.ttd c.tap c.since trace in
    let k = knows_on c trace s.phase s.busy s.quiet s.own on r.0 in
    subst (λ n. Reads (later c to) trace last (after_marks c.p s (begin_mark to (find (begins_in (sensed c.p.ttd c.tap n trace) c.now to) (sensed c.p.ttd c.tap n trace)) ++ end_mark c.p.ttd c.tap t trace to (find (ends_in (sensed c.p.ttd c.tap n trace) c.now to) (sensed c.p.ttd c.tap n trace)))))
    (sym since)
    (pass_reads c to trace last s s.phase s.busy t (find (begins_in xs c.now to) xs) (find (ends_in xs c.now to) xs) fits lt on k r.1 i
    (window c.now to xs s.busy (find (begins_in xs c.now to) xs) (find (ends_in xs c.now to) xs) lt solid (senses_of c trace s.busy s.quiet k.senses) refl refl) (br on))

reads_off : (c : Place) (to : ℕ) (trace : List Entry) (last : Option Record) (s : Station) (ms : List Mark) → s.phase ≡ Offline → Reads (later c to) trace last (after_marks c.p s ms)
reads_off c to trace last s ms off =
    at_state (λ z. Reads (later c to) trace last (after_marks c.p z ms)) s Offline s.busy off refl
    (subst (λ z. Reads (later c to) trace last z) (sym (offline_marks c.p s s.busy ms)) (tt, tt))

-- the first unread mark was seen by the end of what is over now
pub seen_new : (c : Place) (to : ℕ) (trace : List Entry) (busy : Bool) (t : Tap) (b e : Option Span) → c.now < to → WindowOf c.now to (sensed c.p.ttd c.tap c.since trace) busy b e
    → (q : ℕ) → Over (later c to) trace q → SeenBy q (begin_mark to b ++ end_mark c.p.ttd c.tap t trace to e)
seen_new c to trace false t None None lt w q over = tt
seen_new c to trace false t (Some x) None lt w q over = let h = w.2 q (over_of (later c to) trace q over) in omega (arith, h)
seen_new c to trace false t None (Some y) lt w q over = absurd w
seen_new c to trace false t (Some x) (Some y) lt w q over = w.3.1 q (over_of (later c to) trace q over)
seen_new c to trace true t None None lt w q over = tt
seen_new c to trace true t (Some x) e lt w q over = absurd w
seen_new c to trace true t None (Some y) lt w q over = w.1.1 q (over_of (later c to) trace q over)

-- ---- being in time

pub overdue : (lag to : ℕ) (o : Option ℕ) → is_overdue lag to o ≡ false → IfSome o (λ d. to ≤ d + lag)
overdue lag to None e = tt
overdue lag to (Some d) e = ltb-false (d + lag) to e

abbrev pub SeenAt : ℕ → List Mark → Type 0
SeenAt to [] = Unit {0}
SeenAt to (m ∷ ms) = to ≤ seen_at m

due_later : (lag to : ℕ) (s o : Option ℕ) → IfSome o (λ d. to ≤ d + lag) → IfSome s (λ d. to ≤ d) → IfSome (earlier s o) (λ d. to ≤ d + lag)
due_later lag to None o h g = h
due_later lag to (Some a) None h g = omega (arith, g)
due_later lag to (Some a) (Some b) h g = omega (arith, g, h)

first_seen_at : (to : ℕ) (ms : List Mark) → SeenAt to ms → IfSome (first_seen ms) (λ d. to ≤ d)
first_seen_at to [] h = tt
first_seen_at to (m ∷ ms) h = h

pub due_new : (p : Params) (to : ℕ) (s : Station) (ms ns : List Mark) → SeenAt to ns → IfSome (due_of p s ms) (λ d. to ≤ d + p.lag) → IfSome (due_of p s (ms ++ ns)) (λ d. to ≤ d + p.lag)
due_new p to s [] ns h g = due_later p.lag to (first_seen ns) (earlier (timer_of p s) (speaks_at s)) g (first_seen_at to ns h)
due_new p to s (m ∷ ms) ns h g = g

pub seen_at_window : (c : Place) (t : Tap) (trace : List Entry) (to : ℕ) (b e : Option Span) → SeenAt to (begin_mark to b ++ end_mark c.p.ttd c.tap t trace to e)
seen_at_window c t trace to None None = tt
seen_at_window c t trace to (Some x) e = omega arith
seen_at_window c t trace to None (Some y) = omega arith

seen_later : (c : Place) (t : Tap) (trace : List Entry) (to q : ℕ) (b e : Option Span) → to ≤ q → SeenBy q (begin_mark to b ++ end_mark c.p.ttd c.tap t trace to e)
seen_later c t trace to q None None le = tt
seen_later c t trace to q (Some x) e le = le
seen_later c t trace to q None (Some y) le = le

sees : (p : Params) (now to : ℕ) (trace : List Entry) (last : Option Record) (k : ℕ) (t : Tap) (ms : List Mark) → now < to → EachSpan (Solid now to) (sensed p.ttd k t.since trace) → TapHolds p now trace last k (record t { marks = ms })
    → IsOn t.station.phase → (q : ℕ) → Over (place p to k t) trace q ⊎ (to ≤ q) → SeenBy q (ms ++ marks_between p.ttd k t trace now to)
sees p now to trace last k t [] lt solid o on q (inr later) =
    let xs = sensed p.ttd k t.since trace in
    seen_later (place p now k t) t trace to q (find (begins_in xs now to) xs) (find (ends_in xs now to) xs) later
sees p now to trace last k t (m ∷ ms) lt solid o on q (inr later) = o.seen on q (inr (omega arith))
sees p now to trace last k t [] lt solid o on q (inl over) =
    let c = place p now k t in
    let s = t.station in
    let xs = sensed p.ttd k t.since trace in
    seen_new c to trace s.busy t (find (begins_in xs now to) xs) (find (ends_in xs now to) xs) lt
    (window now to xs s.busy (find (begins_in xs now to) xs) (find (ends_in xs now to) xs) lt solid (senses_of c trace s.busy s.quiet (knows_on c trace s.phase s.busy s.quiet s.own on o.knows).senses) refl refl) q over
sees p now to trace last k t (m ∷ ms) lt solid o on q (inl over) = o.seen on q (inl (over_from (place p now k t) trace to q (omega arith) over))

-- the marks of a pass: whether a burst is open behind them
abbrev pub then_busy : Bool → Option Span → Option Span → Bool
then_busy busy b None = busy || is_some b
then_busy busy b (Some y) = false

-- a Begin is told only to one that is not busy, an End only to one that is
pub alternate_in : (c : Place) (to : ℕ) (trace : List Entry) (busy : Bool) (t : Tap) (b e : Option Span) → WindowOf c.now to (sensed c.p.ttd c.tap c.since trace) busy b e
    → Alternates busy (begin_mark to b ++ end_mark c.p.ttd c.tap t trace to e) (then_busy busy b e)
alternate_in c to trace false t None None w = refl
alternate_in c to trace false t (Some x) None w = refl
alternate_in c to trace false t None (Some y) w = absurd w
alternate_in c to trace false t (Some x) (Some y) w = refl
alternate_in c to trace true t None None w = refl
alternate_in c to trace true t (Some x) e w = absurd w
alternate_in c to trace true t None (Some y) w = refl

-- a pass leaves it so that one that knows of activity says nothing
silent_on : (c : Place) (to : ℕ) (trace : List Entry) (s : Station) (t : Tap) → t.since ≡ c.since → c.now < to → EachSpan (Solid c.now to) (sensed c.p.ttd c.tap c.since trace)
    → Senses c trace s.busy s.quiet → IsSilentWhileBusy s → IsSilentWhileBusy (after_marks c.p s (marks_between c.p.ttd c.tap t trace c.now to))
silent_on c to trace s t since lt solid senses i =
    let xs = sensed c.p.ttd c.tap c.since trace in
    let b = find (begins_in xs c.now to) xs in
    let e = find (ends_in xs c.now to) xs in
    subst (λ n. IsSilentWhileBusy (after_marks c.p s (begin_mark to (find (begins_in (sensed c.p.ttd c.tap n trace) c.now to) (sensed c.p.ttd c.tap n trace)) ++ end_mark c.p.ttd c.tap t trace to (find (ends_in (sensed c.p.ttd c.tap n trace) c.now to) (sensed c.p.ttd c.tap n trace)))))
    (sym since)
    (silent-after_marks c.p s (begin_mark to b ++ end_mark c.p.ttd c.tap t trace to e) (then_busy s.busy b e)
    (alternate_in c to trace s.busy t b e (window c.now to xs s.busy b e lt solid (senses_of c trace s.busy s.quiet senses) refl refl)) i)

-- one that is offline reads nothing
pub offline_after : (p : Params) (s : Station) (ms : List Mark) → s.phase ≡ Offline → after_marks p s ms ≡ s
offline_after p s ms off = after_marks-is_offline p s ms (ap is_offline off)

-- time passes for a tap
pub pass_tap : (p : Params) (now to : ℕ) (trace : List Entry) (last : Option Record) (k : ℕ) (t : Tap) → LeavesTime p → now < to → t.running ≡ true → EachSpan (Solid now to) (sensed p.ttd k t.since trace)
    → is_late p to t ≡ false → BringsTo (place p now k t) to last (view p t) t trace → TapHolds p now trace last k t
    → TapHolds p to trace last k (record t { marks = t.marks ++ new_marks p.ttd k t trace now to })
pass_tap p now to trace last k t fits lt running solid late br o =
    subst (λ ms. TapHolds p to trace last k (record t { marks = t.marks ++ ms })) (sym (ap (λ b. if b then ns else []) running)) (record {
      began = omega (arith, o.began);
      address = o.address;
      in_time = due_new p to t.station t.marks ns (seen_at_window c t trace to (find (begins_in xs now to) xs) (find (ends_in xs now to) xs)) (overdue p.lag to (due_of p t.station t.marks) (in_time t.running running late));
      seen = λ on q over. sees p now to trace last k t t.marks lt solid o on q over;
      knows = reads.0;
      view_ok = reads.1;
      grip = o.grip;
      silent = subst IsSilentWhileBusy (sym (append_marks p t.station t.marks ns))
          (⊎_elim (λ (off : (view p t).phase ≡ Offline). subst IsSilentWhileBusy (sym (offline_after p (view p t) ns off)) o.silent)
          (λ (on : IsOn (view p t).phase). silent_on c to trace (view p t) t refl lt solid (knows_on c trace (view p t).phase (view p t).busy (view p t).quiet (view p t).own on o.knows).senses o.silent) (on_or_off (view p t).phase));
    })
  where
    c : Place
    c = place p now k t

    xs : List Span
    xs = sensed p.ttd k t.since trace

    ns : List Mark
    ns = marks_between p.ttd k t trace now to

    in_time : (b : Bool) → b ≡ true → (b && is_overdue p.lag to (due_of p t.station t.marks)) ≡ false → is_overdue p.lag to (due_of p t.station t.marks) ≡ false
    in_time true e f = f
    in_time false e f = absurd cc

    reads : Reads (later c to) trace last (view p (record t { marks = t.marks ++ ns }))
    reads = subst (λ z. Reads (later c to) trace last z) (sym (append_marks p t.station t.marks ns))
        (⊎_elim (λ (off : (view p t).phase ≡ Offline). reads_off c to trace last (view p t) ns off)
        (λ (on : IsOn (view p t).phase). reads_on c to trace last (view p t) t refl fits lt solid on (o.knows, o.view_ok) o.silent br) (on_or_off (view p t).phase))
