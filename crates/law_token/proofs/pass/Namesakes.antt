-- A namesake of a speaker stays fresh as time passes, while the telegram is in the air.
use Rattle.std.proofs.Common.{◌≡◌, ℕ, ◌+◌, ◌<◌, ◌≤◌, ⊎_elim, Bool, true, false, if◌then◌else◌, ◌||◌, List, [], ◌∷◌, ◌++◌, refl, sym, ap, ◌∙◌, subst, arith, Option, Some, None}
use Rattle.std.specs.Prelude.{slice_get, nat_lt, max, find}
use Rattle.std.specs.Option.{option_and_then, option_or}
use Rattle.std.proofs.lemmas.Bool.{ltb-true, lt-ltb, ne_eqb, eq-eqb}
use Rattle.pb_telegram.specs.declared.chars.RxChar.{RxChar}
use Rattle.pb_timers.specs.Timers.{Params, tto}
use Rattle.law_turn.specs.Spans.{Span}
use Rattle.law_turn.specs.Marks.{Begin, End}
use Rattle.law_turn.specs.Arrivals.{Arrival, Token, Framed, Acknowledgement, NoTelegram, arrival_of}
use Rattle.law_turn.specs.Phases.{Phase, Offline, PassiveIdle, Listening, Idle, Claim, Use, AwaitData, AwaitStatus, Pass, Checking}
use Rattle.law_turn.specs.Stations.{Station, Reply}
use Rattle.pb_ring.specs.AddressSets.{with_address}
use Rattle.pb_ring.specs.Las.{LasTable, listening, is_complete, heard, closed_rotation}
use Rattle.pb_ring.specs.declared.stages.Stage.{Stage}
use Rattle.pb_ring.specs.declared.stages.Stage.TheVariants.{Learning}
use Rattle.pb_cycles.specs.Fields.{Fields}
use Rattle.law_turn.specs.Hearing.{claiming, after_timer, after_mark, listening_hears, listening_answer, status_answer, ready_for_ring, not_ready, asks_status, answering, passive, passive_hears}
use Rattle.law_turn.proofs.Addresses as addresses
use Rattle.law_turn.specs.Turns.{after_marks}
use Rattle.law_model.specs.Trace.{Record, Entry, Sent}
use Rattle.law_model.specs.Medium.{Tap, part_after, reaches, is_unheard, sensed, begins_in, ends_in, begin_mark, end_mark, marks_between, burst_characters}
use Rattle.law_model.proofs.Cases.{by_test}
use Rattle.law_token.specs.Lists.{In}
use Rattle.law_token.specs.Places.{LeavesTime, heard_span, Place, IsSplit}
use Rattle.law_token.specs.Views.{Knows, IsOn}
use Rattle.law_token.specs.Entries.{TakesNone, JoinsNot, IsFreshIn, IsFresh}
use Rattle.law_token.proofs.bus.Lists.{each_in}
use Rattle.law_model.proofs.Window.{EachSpan, Solid, WindowOf, window, begin_found, end_found}
use Rattle.law_token.proofs.bus.Spans.{from_spans}
use Rattle.law_token.proofs.pass.Taps.{phase_at, senses_of}

-- ---- marks leave a fresh station fresh

pub takes_none : (ph : Phase) (table : LasTable) (reply : Option Reply) → IsFreshIn ph table reply → TakesNone ph
takes_none Offline table reply f = tt
takes_none PassiveIdle table reply f = tt
takes_none (Listening doubled) table reply f = tt
takes_none (Idle refused) table reply f = absurd f
takes_none (Claim sent ready) table reply f = absurd f
takes_none (Use asked ready) table reply f = absurd f
takes_none (AwaitData asked retry slot) table reply f = absurd f
takes_none (AwaitStatus of slot) table reply f = absurd f
takes_none (Pass tries ready) table reply f = absurd f
takes_none (Checking tries) table reply f = absurd f

-- one that listens is fresh still where its reply changes, if that does not join
pub other_reply : (doubled : Bool) (table : LasTable) (reply reply' : Option Reply) → JoinsNot reply' → IsFreshIn (Listening doubled) table reply → IsFreshIn (Listening doubled) table reply'
other_reply true table reply reply' none f = (f.0, none)
other_reply false table reply reply' none f = (f.0, none)

-- its list is not complete
incomplete : (doubled : Bool) (table : LasTable) (reply : Option Reply) → IsFreshIn (Listening doubled) table reply → is_complete table.stage ≡ false
incomplete true table reply f = f.0
incomplete false table reply f = ap (λ (t : LasTable). is_complete t.stage) f.0

pub no_join : (doubled : Bool) (table : LasTable) (reply : Option Reply) → IsFreshIn (Listening doubled) table reply → JoinsNot reply
no_join true table reply f = f.1
no_join false table reply f = f.1

-- a fresh station, busy unless it is offline
abbrev FreshBusy : Station → Type 0
FreshBusy y = IsFresh y × (IsOn y.phase → y.busy ≡ true)

-- a Begin before the time-out
begin_fresh : (p : Params) (s : Station) (ph : Phase) (busy : Bool) (m seen : ℕ) → IsFreshIn ph s.las s.reply → (IsOn ph → m ≤ s.quiet + tto p s.address) → FreshBusy (after_mark p (after_timer p m (record s { phase = ph; busy = busy })) (Begin m seen))
begin_fresh p s Offline true m seen f early = (tt, λ on. absurd on)
begin_fresh p s Offline false m seen f early = (tt, λ on. absurd on)
begin_fresh p s PassiveIdle true m seen f early = (tt, λ _. refl)
begin_fresh p s PassiveIdle false m seen f early = (tt, λ _. refl)
begin_fresh p s (Listening doubled) true m seen f early = (other_reply doubled s.las s.reply None tt f, λ _. refl)
begin_fresh p s (Listening doubled) false m seen f early =
    by_test (λ y. FreshBusy (after_mark p y (Begin m seen))) (nat_lt (s.quiet + tto p s.address) m) (claiming (record s { phase = Listening doubled; busy = false }) (s.quiet + tto p s.address)) (record s { phase = Listening doubled; busy = false })
    (λ late. absurd (omega (arith, ltb-true (s.quiet + tto p s.address) m late, early tt))) (λ _. (other_reply doubled s.las s.reply None tt f, λ _. refl))
begin_fresh p s (Idle refused) busy m seen f early = absurd f
begin_fresh p s (Claim sent ready) busy m seen f early = absurd f
begin_fresh p s (Use asked ready) busy m seen f early = absurd f
begin_fresh p s (AwaitData asked retry slot) busy m seen f early = absurd f
begin_fresh p s (AwaitStatus of slot) busy m seen f early = absurd f
begin_fresh p s (Pass tries ready) busy m seen f early = absurd f
begin_fresh p s (Checking tries) busy m seen f early = absurd f

-- a token that is heard has an address as its source
abbrev pub ComesFrom : ℕ → Arrival → Type 0
ComesFrom address a = (da sa : ℕ) → a ≡ Token da sa → sa ≡ address

-- after one token a list is not complete
first_token : (sa da : ℕ) → is_complete (heard listening sa da).stage ≡ false
first_token sa da =
    by_test (λ (s : Stage). is_complete s ≡ false) (nat_lt sa da) (Learning (with_address sa []) None) (closed_rotation (with_address sa []) None) (λ _. refl) (λ _. refl)

-- an answer of one whose list is not complete does not join
answer_joins : (p : Params) (s : Station) (m : ℕ) (f : Fields) → is_complete s.las.stage ≡ false → JoinsNot s.reply → JoinsNot (option_or (listening_answer p s m f) s.reply)
answer_joins p s m f not_complete none =
    subst (λ b. JoinsNot (option_or (if b then status_answer p s m f ready_for_ring true else status_answer p s m f not_ready false) s.reply)) (sym not_complete)
    (by_test (λ (o : Option Reply). JoinsNot (option_or o s.reply)) (asks_status s.address f) _ None (λ _. refl) (λ _. none))

listening_fresh : (p : Params) (s : Station) (doubled : Bool) (m : ℕ) (a : Arrival) → s.phase ≡ Listening doubled → ComesFrom s.address a → IsFreshIn (Listening doubled) s.las s.reply → IsFresh (listening_hears p s doubled m a)
listening_fresh p s doubled m (Token da sa) e from f =
    subst (λ b. IsFreshIn (if b then if doubled then Offline else Listening true else Listening doubled) (heard s.las sa da) s.reply) (sym (eq-eqb sa s.address (from da sa refl))) (by doubled f)
  where
    by : (d : Bool) → IsFreshIn (Listening d) s.las s.reply → IsFreshIn (if d then Offline else Listening true) (heard s.las sa da) s.reply
    by true f = tt
    by false f = (subst (λ (t : LasTable). is_complete (heard t sa da).stage ≡ false) (sym f.0) (first_token sa da), f.1)
listening_fresh p s doubled m (Framed frame) e from f =
    subst (λ ph. IsFreshIn ph s.las (option_or (listening_answer p s m frame) s.reply)) (sym e)
    (other_reply doubled s.las s.reply _ (answer_joins p s m frame (incomplete doubled s.las s.reply f) (no_join doubled s.las s.reply f)) f)
listening_fresh p s doubled m Acknowledgement e from f = subst (λ ph. IsFreshIn ph s.las s.reply) (sym e) f
listening_fresh p s doubled m NoTelegram e from f = subst (λ ph. IsFreshIn ph s.las s.reply) (sym e) f

passive_fresh : (p : Params) (s : Station) (m : ℕ) (a : Arrival) → s.phase ≡ PassiveIdle → IsFresh (passive_hears p s m a)
passive_fresh p s m (Token da sa) e = subst (λ ph. IsFreshIn ph s.las s.reply) (sym e) tt
passive_fresh p s m (Framed f) e = subst (λ ph. IsFreshIn ph s.las (answering p s m f passive).reply) (sym e) tt
passive_fresh p s m Acknowledgement e = subst (λ ph. IsFreshIn ph s.las s.reply) (sym e) tt
passive_fresh p s m NoTelegram e = subst (λ ph. IsFreshIn ph s.las s.reply) (sym e) tt

-- an End, with no other token than from the own address
end_fresh : (p : Params) (s : Station) (ph : Phase) (busy : Bool) (m seen : ℕ) (chars : List RxChar) → ComesFrom s.address (arrival_of chars) → IsFreshIn ph s.las s.reply → (IsOn ph → busy ≡ true)
    → IsFresh (after_mark p (after_timer p m (record s { phase = ph; busy = busy })) (End m seen chars))
end_fresh p s Offline true m seen chars from f b = tt
end_fresh p s Offline false m seen chars from f b = tt
end_fresh p s PassiveIdle true m seen chars from f b = passive_fresh p (record s { phase = PassiveIdle; busy = false; quiet = max s.quiet m }) m (arrival_of chars) refl
end_fresh p s PassiveIdle false m seen chars from f b = absurd (let w : false ≡ true = b tt in cc)
end_fresh p s (Listening doubled) true m seen chars from f b = listening_fresh p (record s { phase = Listening doubled; busy = false; quiet = max s.quiet m }) doubled m (arrival_of chars) refl from f
end_fresh p s (Listening doubled) false m seen chars from f b = absurd (let w : false ≡ true = b tt in cc)
end_fresh p s (Idle refused) busy m seen chars from f b = absurd f
end_fresh p s (Claim sent ready) busy m seen chars from f b = absurd f
end_fresh p s (Use asked ready) busy m seen chars from f b = absurd f
end_fresh p s (AwaitData asked retry slot) busy m seen chars from f b = absurd f
end_fresh p s (AwaitStatus of slot) busy m seen chars from f b = absurd f
end_fresh p s (Pass tries ready) busy m seen chars from f b = absurd f
end_fresh p s (Checking tries) busy m seen chars from f b = absurd f

-- the phase when an End is read
then_fresh : (c : Place) (to : ℕ) (s : Station) (ph : Phase) (busy : Bool) (b : Option Span) → IsFreshIn ph s.las s.reply → ((x : Span) → b ≡ Some x → IsOn ph → x.begin ≤ s.quiet + tto c.p s.address) → TakesNone (phase_at c to s ph busy b)
then_fresh c to s ph busy None f early = takes_none ph s.las s.reply f
then_fresh c to s ph busy (Some x) f early =
    let z = after_mark c.p (after_timer c.p x.begin (record s { phase = ph; busy = busy })) (Begin x.begin to) in takes_none z.phase z.las z.reply (begin_fresh c.p s ph busy x.begin to f (early x refl)).0

-- all the marks of a pass
window_fresh : (c : Place) (to : ℕ) (t : Tap) (trace : List Entry) (s : Station) (ph : Phase) (busy : Bool) (b e : Option Span) → IsFreshIn ph s.las s.reply → ((x : Span) → b ≡ Some x → IsOn ph → x.begin ≤ s.quiet + tto c.p s.address)
    → ((y : Span) → e ≡ Some y → ComesFrom s.address (arrival_of (burst_characters c.p.ttd c.tap t trace y.end)))
    → (IsOn ph → WindowOf c.now to (sensed c.p.ttd c.tap c.since trace) busy b e) → IsFresh (after_marks c.p (record s { phase = ph; busy = busy }) (begin_mark to b ++ end_mark c.p.ttd c.tap t trace to e))
window_fresh c to t trace s ph busy None None f early from w = f
window_fresh c to t trace s ph busy (Some x) None f early from w = (begin_fresh c.p s ph busy x.begin to f (early x refl)).0
window_fresh c to t trace s ph busy (Some x) (Some y) f early from w =
    let before = record s { phase = ph; busy = busy } in
    let z = after_mark c.p (after_timer c.p x.begin before) (Begin x.begin to) in
    let h = begin_fresh c.p s ph busy x.begin to f (early x refl) in
    let same : z.address ≡ s.address = addresses.marks c.p before (Begin x.begin to ∷ []) in
    end_fresh c.p z z.phase z.busy y.end to (burst_characters c.p.ttd c.tap t trace y.end) (subst (λ n. ComesFrom n (arrival_of (burst_characters c.p.ttd c.tap t trace y.end))) (sym same) (from y refl)) h.0 h.1
window_fresh c to t trace s ph true None (Some y) f early from w = end_fresh c.p s ph true y.end to (burst_characters c.p.ttd c.tap t trace y.end) (from y refl) f (λ _. refl)
window_fresh c to t trace s ph false None (Some y) f early from w = end_fresh c.p s ph false y.end to (burst_characters c.p.ttd c.tap t trace y.end) (from y refl) f (λ on. absurd (w on))

-- ---- nothing begins at a tap that a telegram in the air reaches later than a cable delay after its start

pub heard_is : (delay tap since : ℕ) (r : Record) → (r.tap ≡ tap → ⊥) → is_unheard (slice_get r.heard tap) ≡ false → since < r.end + delay
    → heard_span delay tap since (Sent r) ≡ Some (record { begin = max (r.begin + delay) since; end = r.end + delay })
heard_is delay tap since r other heard lt =
    ap (λ b. option_and_then (part_after since) (if b || is_unheard (slice_get r.heard tap) then None else Some (reaches delay r))) (ne_eqb r.tap tap other)
    ∙ ap (λ b. option_and_then (part_after since) (if b then None else Some (reaches delay r))) heard
    ∙ ap (λ b. if b then Some (record { begin = max (r.begin + delay) since; end = r.end + delay }) else None) (lt-ltb since (r.end + delay) lt)

-- what begins at a tap begins by the moment at which a telegram in the air begins there
pub begins_early : (c : Place) (to : ℕ) (trace : List Entry) (r : Record) (busy : Bool) (quiet : ℕ) (own x : Span) → LeavesTime c.p → c.now < to → EachSpan (Solid c.now to) (sensed c.p.ttd c.tap c.since trace) → Knows c trace busy quiet own
    → In (Sent r) trace → (r.tap ≡ c.tap → ⊥) → is_unheard (slice_get r.heard c.tap) ≡ false → c.since ≤ c.now → c.now < r.end + c.p.ttd → to ≤ r.end + c.p.ttd → r.begin ≤ c.since
    → find (begins_in (sensed c.p.ttd c.tap c.since trace) c.now to) (sensed c.p.ttd c.tap c.since trace) ≡ Some x → (address : ℕ) → x.begin ≤ quiet + tto c.p address
begins_early c to trace r busy quiet own x fits lt solid k inside other heard began air through older f address =
    let f = begin_found c.now to (sensed c.p.ttd c.tap c.since trace) x solid f in
    let s = each_in (λ e. IsSplit x.begin (heard_span c.p.ttd c.tap c.since e)) (Sent r) trace (from_spans (IsSplit x.begin) c.p.ttd c.tap c.since trace tt f.none) inside in
    let here : IsSplit x.begin (Some (record { begin = max (r.begin + c.p.ttd) c.since; end = r.end + c.p.ttd })) = subst (IsSplit x.begin) (heard_is c.p.ttd c.tap c.since r other heard (omega arith)) s in
    let early : x.begin ≤ max (r.begin + c.p.ttd) c.since = ⊎_elim (λ (a : x.begin ≤ max (r.begin + c.p.ttd) c.since). a) (λ (b : r.end + c.p.ttd ≤ x.begin). absurd (omega (arith, b, f.high))) here in
    let most : x.begin ≤ quiet + c.p.tsl = omega (arith, early, k.started, k.order, k.ended, fits.take) in
    omega (arith, most)

-- the phase of a view, when an End of the pass is read, and after the pass
pub fresh_then : (c : Place) (to : ℕ) (trace : List Entry) (r : Record) (s : Station) (t : Tap) → LeavesTime c.p → c.now < to → EachSpan (Solid c.now to) (sensed c.p.ttd c.tap c.since trace) → (IsOn s.phase → Knows c trace s.busy s.quiet s.own)
    → In (Sent r) trace → (r.tap ≡ c.tap → ⊥) → is_unheard (slice_get r.heard c.tap) ≡ false → c.since ≤ c.now → c.now < r.end + c.p.ttd → to ≤ r.end + c.p.ttd → r.begin ≤ c.since → IsFresh s
    → TakesNone (phase_at c to s s.phase s.busy (find (begins_in (sensed c.p.ttd c.tap c.since trace) c.now to) (sensed c.p.ttd c.tap c.since trace)))
fresh_then c to trace r s t fits lt solid k inside other heard began air through older fresh =
    let xs = sensed c.p.ttd c.tap c.since trace in
    then_fresh c to s s.phase s.busy (find (begins_in xs c.now to) xs) fresh
    (λ x f on. begins_early c to trace r s.busy s.quiet s.own x fits lt solid (k on) inside other heard began air through older f s.address)

pub fresh_after : (c : Place) (to : ℕ) (trace : List Entry) (r : Record) (s : Station) (t : Tap) → t.since ≡ c.since → LeavesTime c.p → c.now < to → EachSpan (Solid c.now to) (sensed c.p.ttd c.tap c.since trace) → (IsOn s.phase → Knows c trace s.busy s.quiet s.own)
    → In (Sent r) trace → (r.tap ≡ c.tap → ⊥) → is_unheard (slice_get r.heard c.tap) ≡ false → c.since ≤ c.now → c.now < r.end + c.p.ttd → to ≤ r.end + c.p.ttd → r.begin ≤ c.since
    → ComesFrom s.address (arrival_of (burst_characters c.p.ttd c.tap t trace to)) → IsFresh s → IsFresh (after_marks c.p s (marks_between c.p.ttd c.tap t trace c.now to))
fresh_after c to trace r s t since fits lt solid k inside other heard began air through older from fresh =
    let xs = sensed c.p.ttd c.tap c.since trace in
    subst (λ n. IsFresh (after_marks c.p s (begin_mark to (find (begins_in (sensed c.p.ttd c.tap n trace) c.now to) (sensed c.p.ttd c.tap n trace)) ++ end_mark c.p.ttd c.tap t trace to (find (ends_in (sensed c.p.ttd c.tap n trace) c.now to) (sensed c.p.ttd c.tap n trace)))))
    (sym since)
    (window_fresh c to t trace s s.phase s.busy (find (begins_in xs c.now to) xs) (find (ends_in xs c.now to) xs) fresh
    (λ x f on. begins_early c to trace r s.busy s.quiet s.own x fits lt solid (k on) inside other heard began air through older f s.address)
    (λ y f. subst (λ m. ComesFrom s.address (arrival_of (burst_characters c.p.ttd c.tap t trace m))) (sym (end_found c.now to xs y solid f).0) from)
    (λ on. window c.now to xs s.busy (find (begins_in xs c.now to) xs) (find (ends_in xs c.now to) xs) lt solid (senses_of c trace s.busy s.quiet (k on).senses) refl refl))
