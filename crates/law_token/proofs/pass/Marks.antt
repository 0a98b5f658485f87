-- What a tap knows, and what its view is, once a pass has told it of a Begin, or of an End.
use Rattle.std.proofs.Common.{◌≡◌, ℕ, ◌+◌, ◌≤◌, ◌⊎◌, inl, inr, ⊎_elim, Bool, true, false, if◌then◌else◌, ◌==◌, ◌&&◌, List, refl, sym, ◌∙◌, subst, arith, Option, Some, None}
use Rattle.std.specs.Prelude.{nat_lt, nat_le, max, is_some, IfSome}
use Rattle.std.specs.Option.{option_map, option_or}
use Rattle.std.proofs.lemmas.Bool.{le-ltb, eqb-true}
use Rattle.pb_timers.specs.Timers.{tto}
use Rattle.pb_ring.specs.Las.{place_of, skips_of, is_complete}
use Rattle.pb_cycles.specs.Fields.{Fields}
use Rattle.pb_cycles.specs.Messages.{has_bit}
use Rattle.pb_cycles.specs.declared.messages.Message.{Message}
use Rattle.pb_cycles.specs.declared.messages.Message.TheVariants as message
use Rattle.pb_cycles.specs.Initiating.{retry_of}
use Rattle.pb_cycles.specs.declared.outcomes.Outcome.{Outcome}
use Rattle.law_turn.specs.Spans.{Span}
use Rattle.law_turn.specs.Arrivals.{Arrival, Token, Framed, Acknowledgement, NoTelegram}
use Rattle.law_turn.specs.Laws.{WaitsInPlace}
use Rattle.law_turn.specs.Marks.{Begin}
use Rattle.law_turn.specs.Phases.{Phase, Offline, PassiveIdle, Listening, Idle, Claim, Use, AwaitData, AwaitStatus, Pass, Checking}
use Rattle.law_turn.specs.Stations.{Station, Reply, previous_station}
use Rattle.law_turn.specs.Hearing.{after_timer, tries_limit, after_mark, ended, is_taken_from, taking, with_token, token_in_idle, answer_to, in_ring, passive, asks_status, status_answer, listening_answer, ready_for_ring, not_ready, skips_limit, status_told, data_told, no_reply}
use Rattle.law_model.specs.Trace.{Record, Entry}
use Rattle.law_model.proofs.Cases.{by_test}
use Rattle.law_token.specs.Places.{LeavesTime, heard_span, IsOver, Place, Over}
use Rattle.law_token.specs.Tokens.{Held, Taken}
use Rattle.law_token.specs.Views.{Waits, IsRecent, Awaits, ViewOf, Knows, KnowsIn, IsOn}
use Rattle.law_token.specs.Entries.{TakesNone}
use Rattle.law_token.proofs.bus.Lists.{each_map}

pub at_state : (P : Station → Type 0) (s : Station) (ph : Phase) (b : Bool) → s.phase ≡ ph → s.busy ≡ b → P (record s { phase = ph; busy = b }) → P s
at_state P s ph b e f h = subst (λ z. P (record s { busy = z })) (sym f) (subst (λ z. P (record s { phase = z; busy = b })) (sym e) h)

-- the clock of a place, later
abbrev pub later : Place → ℕ → Place
later c to = record c { now = to }

pub over_from : (c : Place) (trace : List Entry) (to q : ℕ) → c.now ≤ to → Over (later c to) trace q → Over c trace q
over_from c trace to q le over =
    each_map (λ e. IsOver to q (heard_span c.p.ttd c.tap c.since e)) (λ e. IsOver c.now q (heard_span c.p.ttd c.tap c.since e)) trace (λ e h. one (heard_span c.p.ttd c.tap c.since e) h) over
  where
    one : (o : Option Span) → IsOver to q o → IsOver c.now q o
    one None h = tt
    one (Some x) h = ⊎_elim (λ (a : to ≤ x.begin). inl (omega arith)) (λ (b : x.end ≤ q). inr b) h

pub recent_from : (c : Place) (trace : List Entry) (to quiet : ℕ) → c.now ≤ to → IsRecent c trace quiet → IsRecent (later c to) trace quiet
recent_from c trace to quiet le r q over inits = r q (⊎_elim (λ (o : Over (later c to) trace q). inl (over_from c trace to q le o)) (λ (n : to ≤ q). inr (omega arith)) over) inits

-- what holds of a tap once it has read
abbrev pub Reads : Place → List Entry → Option Record → Station → Type 0
Reads c trace last y = KnowsIn c trace y.phase y.busy y.quiet y.own × ViewOf c trace last y.phase y.busy y.quiet y.own y.reply

and_false : (a b : Bool) → b ≡ false → (a && b) ≡ false
and_false true b e = e
and_false false b e = refl

-- after a Begin the tap is busy, and gives up what it held: an awaiting one keeps it
begin_awaiting : (c : Place) (trace : List Entry) (last : Option Record) (own : Span) (m quiet : ℕ) (slot : Bool) → own.begin ≤ m → Held last c.tap own → IsRecent c trace quiet
    → Awaits c trace true quiet own None (slot && nat_lt m own.begin) × Held last c.tap own × IsRecent c trace quiet
begin_awaiting c trace last own m quiet slot late held recent = ((refl, and_false slot (nat_lt m own.begin) (le-ltb m own.begin late)), held, recent)

-- what a Begin leaves: the view of a busy station, as long quiet and with the same last telegram
abbrev pub BeginOk : Place → List Entry → Option Record → Station → Station → Type 0
BeginOk c trace last s y = ViewOf c trace last y.phase true s.quiet s.own y.reply × (y.busy ≡ true) × (y.quiet ≡ s.quiet) × (y.own ≡ s.own) × (y.address ≡ s.address)

pub begin_reads : (c : Place) (to m seen : ℕ) (trace : List Entry) (last : Option Record) (s : Station) (ph : Phase) → c.now ≤ to → s.own.begin ≤ m → IsOn ph
    → ViewOf c trace last ph false s.quiet s.own s.reply → WaitsInPlace ph s.reply
    → BeginOk (later c to) trace last s (after_mark c.p (after_timer c.p m (record s { phase = ph; busy = false })) (Begin m seen))
begin_reads c to m seen trace last s Offline le late k v i = absurd k
begin_reads c to m seen trace last s PassiveIdle le late k v i = (refl, refl, refl, refl, refl)
begin_reads c to m seen trace last s (Listening doubled) le late k v i =
    by_test (λ y. BeginOk (later c to) trace last s (after_mark c.p y (Begin m seen))) (nat_lt (s.quiet + tto c.p s.address) m) _ _ (λ _. (refl, refl, refl, refl, refl)) (λ _. (refl, refl, refl, refl, refl))
begin_reads c to m seen trace last s (Idle refused) le late k v i =
    by_test (λ y. BeginOk (later c to) trace last s (after_mark c.p y (Begin m seen))) (nat_lt (s.quiet + tto c.p s.address) m) _ _ (λ _. (refl, refl, refl, refl, refl)) (λ _. (refl, refl, refl, refl, refl))
begin_reads c to m seen trace last s (Claim sent ready) le late k v i = (i, refl, refl, refl, refl)
begin_reads c to m seen trace last s (Use asked ready) le late k v i = (i, refl, refl, refl, refl)
begin_reads c to m seen trace last s (AwaitData asked retry true) le late k v i =
    by_test (λ y. BeginOk (later c to) trace last s (after_mark c.p y (Begin m seen))) (nat_lt (s.own.end + c.p.tsl) m) _ _
    (λ _. by_test (λ y. BeginOk (later c to) trace last s (after_mark c.p y (Begin m seen))) (is_some (retry_of s.cycles.initiator.pending)) _ _
    (λ _. (begin_awaiting (later c to) trace last s.own m s.quiet false late v.1 (recent_from c trace to s.quiet le v.2), refl, refl, refl, refl)) (λ _. (i, refl, refl, refl, refl)))
    (λ _. (begin_awaiting (later c to) trace last s.own m s.quiet true late v.1 (recent_from c trace to s.quiet le v.2), refl, refl, refl, refl))
begin_reads c to m seen trace last s (AwaitData asked retry false) le late k v i = (begin_awaiting (later c to) trace last s.own m s.quiet false late v.1 (recent_from c trace to s.quiet le v.2), refl, refl, refl, refl)
begin_reads c to m seen trace last s (AwaitStatus of true) le late k v i =
    by_test (λ y. BeginOk (later c to) trace last s (after_mark c.p y (Begin m seen))) (nat_lt (s.own.end + c.p.tsl) m) _ _ (λ _. (i, refl, refl, refl, refl))
    (λ _. (begin_awaiting (later c to) trace last s.own m s.quiet true late v.1 (recent_from c trace to s.quiet le v.2), refl, refl, refl, refl))
begin_reads c to m seen trace last s (AwaitStatus of false) le late k v i = (begin_awaiting (later c to) trace last s.own m s.quiet false late v.1 (recent_from c trace to s.quiet le v.2), refl, refl, refl, refl)
begin_reads c to m seen trace last s (Pass tries ready) le late k v i = (i, refl, refl, refl, refl)
begin_reads c to m seen trace last s (Checking tries) le late k v i =
    by_test (λ y. BeginOk (later c to) trace last s (after_mark c.p y (Begin m seen))) (nat_lt (s.own.end + c.p.tsl) m) _ _
    (λ _. by_test (λ y. BeginOk (later c to) trace last s (after_mark c.p y (Begin m seen))) (nat_le tries_limit tries) _ _ (λ _. (i, refl, refl, refl, refl)) (λ _. (i, refl, refl, refl, refl)))
    (λ _. by_test (λ z. BeginOk (later c to) trace last s (record s { busy = true; phase = z })) (nat_lt m s.own.begin) (Checking tries) (Idle None)
    (λ h. absurd (let wrong : true ≡ false = sym h ∙ le-ltb m s.own.begin late in cc)) (λ _. (i, refl, refl, refl, refl)))

-- ---- an End

-- what an End brings to a tap in a phase: a telegram came when its own was over, and a token to it leaves the bus to it, if it isn't fresh
pub record Brings (c : Place) (last : Option Record) (address : ℕ) (own : Span) (ph : Phase) (a : Arrival) : Type 0 where
  pub over : (a ≡ NoTelegram → ⊥) → own.end ≤ c.now
  pub token : (TakesNone ph → ⊥) → (da sa : ℕ) → a ≡ Token da sa → da ≡ address → Taken c.p.ttd last c.tap c.address c.now

-- the moments of a tap at which an End is read
pub record Ends (c : Place) (trace : List Entry) (quiet : ℕ) (own : Span) : Type 0 where
  pub knows : Knows c trace false (max quiet c.now) own
  pub here : (q : ℕ) → Over c trace q → c.now ≤ q
  pub before : (quiet ≤ c.now) ⊎ (quiet ≡ own.end)
  pub ended : own.end ≤ quiet

-- a telegram
token-some : (da sa : ℕ) → Token da sa ≡ NoTelegram → ⊥
token-some da sa e = cc

framed-some : (f : Fields) → Framed f ≡ NoTelegram → ⊥
framed-some f e = cc

ack-some : Acknowledgement ≡ NoTelegram → ⊥
ack-some e = cc

ready_of_answer : (x at quiet now tsdr : ℕ) → (o : Option Reply) → IfSome o (λ r. r.ready ≡ now + tsdr) → quiet ≤ now → IfSome (option_or o None) (λ r. r.ready ≡ max quiet now + tsdr)
ready_of_answer x at quiet now tsdr None h le = tt
ready_of_answer x at quiet now tsdr (Some r) h le = omega (arith, h)

waits_answer : (c : Place) (quiet : ℕ) (o reply : Option Reply) → reply ≡ None → IfSome o (λ r. r.ready ≡ c.now + c.p.tsdr) → quiet ≤ c.now → Waits c false (max quiet c.now) (option_or o reply)
waits_answer c quiet o reply e h le = subst (λ r. Waits c false (max quiet c.now) (option_or o r)) (sym e) (ready_of_answer 0 0 quiet c.now c.p.tsdr o h le)

waits_none : (c : Place) (quiet : ℕ) (reply : Option Reply) → reply ≡ None → Waits c false quiet reply
waits_none c quiet reply e = subst (λ r. Waits c false quiet r) (sym e) tt

mapped_ready : {X : Type 0} (m : ℕ) (f : X → Reply) → ((x : X) → (f x).ready ≡ m) → (o : Option X) → IfSome (option_map f o) (λ r. r.ready ≡ m)
mapped_ready {X} m f h None = tt
mapped_ready {X} m f h (Some x) = h x

if_ready : (m : ℕ) (b : Bool) (r : Reply) → r.ready ≡ m → IfSome (if b then Some r else None) (λ x. x.ready ≡ m)
if_ready m true r h = h
if_ready m false r h = tt

over_now : {ph : Phase} (c : Place) (trace : List Entry) (quiet : ℕ) (own : Span) (last : Option Record) (address : ℕ) (a : Arrival) → Ends c trace quiet own → Brings c last address own ph a → (a ≡ NoTelegram → ⊥) → quiet ≤ c.now
over_now {ph} c trace quiet own last address a e b some = let h = b.over some in ⊎_elim (λ (x : quiet ≤ c.now). x) (λ (x : quiet ≡ own.end). omega (arith, h)) e.before

-- a holder goes on after an End
recent_end : (c : Place) (trace : List Entry) (quiet : ℕ) (own : Span) → Ends c trace quiet own → IsRecent c trace quiet → IsRecent c trace (max quiet c.now)
recent_end c trace quiet own e r q over inits = let h : c.now ≤ q = ⊎_elim (λ (o : Over c trace q). e.here q o) (λ (n : c.now ≤ q). n) over in let g = r q over inits in omega (arith, h, g)

used_again : (c : Place) (trace : List Entry) (last : Option Record) (asked : Bool) (quiet ready : ℕ) (own : Span) (reply : Option Reply) → LeavesTime c.p → Ends c trace quiet own → ready ≡ max quiet c.now + c.p.tid1
    → Held last c.tap own → IsRecent c trace quiet → ViewOf c trace last (Use asked ready) false (max quiet c.now) own reply
used_again c trace last asked quiet ready own reply fits e at held recent = (refl, omega (arith, at, fits.idle), omega (arith, at, fits.idle_order), recent_end c trace quiet own e recent, inl held)

-- the moment at which one that waited goes on, whatever came
resumes : (c : Place) (trace : List Entry) (quiet : ℕ) (own : Span) → Ends c trace quiet own → max c.now own.end + c.p.tid1 ≡ max quiet c.now + c.p.tid1
resumes c trace quiet own e = ⊎_elim (λ (x : quiet ≤ c.now). omega (arith, e.ended)) (λ (x : quiet ≡ own.end). omega arith) e.before

resumes_after : (c : Place) (quiet : ℕ) → quiet ≤ c.now → c.now + c.p.tid1 ≡ max quiet c.now + c.p.tid1
resumes_after c quiet le = omega arith

abbrev At : Place → Station → Station
At c s = record s { busy = false; quiet = max s.quiet c.now }

idle_token : (c : Place) (trace : List Entry) (last : Option Record) (s : Station) (refused : Option ℕ) (da sa : ℕ) → LeavesTime c.p → Ends c trace s.quiet s.own → Brings c last s.address s.own (Idle refused) (Token da sa) → s.reply ≡ None
    → Reads c trace last (token_in_idle c.p (record (At c s) { phase = Idle refused }) refused c.now da sa)
idle_token c trace last s refused da sa fits e b none =
    let k = e.knows in
    let le = over_now c trace s.quiet s.own last s.address (Token da sa) e b (token-some da sa) in
    let x = record (At c s) { phase = Idle refused } in
    let y = with_token x da sa in
    by_test (Reads c trace last) (da == s.address) _ _
    (λ own. by_test (Reads c trace last) (is_taken_from refused (previous_station x) sa) (taking c.p y c.now) _
    (λ _. (
      k,
      (
        refl,
        omega (arith, fits.idle),
        omega (arith, fits.idle_order),
        (λ q over inits. let h : c.now ≤ q = ⊎_elim (λ (o : Over c trace q). e.here q o) (λ (n : c.now ≤ q). n) over in omega (arith, h)),
        inr (subst (λ n. Taken c.p.ttd last c.tap c.address n) (let z : c.now ≡ max s.quiet c.now = omega arith in z) (b.token (λ f. f) da sa refl (eqb-true da s.address own)), omega arith),
      ),
    ))
    (λ _. (k, waits_none c (max s.quiet c.now) s.reply none)))
    (λ _. by_test (Reads c trace last) (nat_le skips_limit (skips_of (place_of y.las.stage))) _ y (λ _. (k, tt)) (λ _. (k, waits_none c (max s.quiet c.now) s.reply none)))

status_reads : (c : Place) (trace : List Entry) (last : Option Record) (s : Station) (of : ℕ) (fc : Option ℕ) → LeavesTime c.p → Ends c trace s.quiet s.own → s.quiet ≤ c.now → Held last c.tap s.own → IsRecent c trace s.quiet
    → Reads c trace last (status_told c.p (At c s) of c.now fc)
status_reads c trace last s of None fits e le held recent = (e.knows, used_again c trace last true s.quiet (max c.now s.own.end + c.p.tid1) s.own s.reply fits e (resumes c trace s.quiet s.own e) held recent)
status_reads c trace last s of (Some fc) fits e le held recent = (e.knows, used_again c trace last true s.quiet (c.now + c.p.tid1) s.own s.reply fits e (resumes_after c s.quiet le) held recent)

none_reads : (c : Place) (trace : List Entry) (last : Option Record) (s : Station) (asked : Bool) → LeavesTime c.p → Ends c trace s.quiet s.own → Held last c.tap s.own → IsRecent c trace s.quiet
    → Reads c trace last (no_reply c.p (At c s) asked false c.now)
none_reads c trace last s asked fits e held recent =
    by_test (Reads c trace last) (is_some (retry_of s.cycles.initiator.pending)) _ _
    (λ _. (e.knows, ((refl, resumes c trace s.quiet s.own e), held, recent_end c trace s.quiet s.own e recent)))
    (λ _. (e.knows, used_again c trace last asked s.quiet (max c.now s.own.end + c.p.tid1) s.own s.reply fits e (resumes c trace s.quiet s.own e) held recent))

data_reads : (c : Place) (trace : List Entry) (last : Option Record) (s : Station) (asked : Bool) (m : Message) (o : Option Outcome) → LeavesTime c.p → Ends c trace s.quiet s.own → s.quiet ≤ c.now → Held last c.tap s.own → IsRecent c trace s.quiet
    → Reads c trace last (data_told c.p (At c s) asked false c.now m o)
data_reads c trace last s asked m None fits e le held recent = none_reads c trace last s asked fits e held recent
data_reads c trace last s asked m (Some outcome) fits e le held recent = (e.knows, used_again c trace last asked s.quiet (c.now + c.p.tid1) s.own s.reply fits e (resumes_after c s.quiet le) held recent)

pub end_reads : (c : Place) (trace : List Entry) (last : Option Record) (s : Station) (ph : Phase) (a : Arrival) → LeavesTime c.p → Ends c trace s.quiet s.own → Brings c last s.address s.own ph a
    → ViewOf c trace last ph true s.quiet s.own s.reply → WaitsInPlace ph s.reply → Reads c trace last (ended c.p (record s { phase = ph; busy = true }) c.now a)
end_reads c trace last s Offline a fits e b v i = (tt, tt)
end_reads c trace last s PassiveIdle (Token da sa) fits e b v i = (e.knows, waits_none c (max s.quiet c.now) s.reply v)
end_reads c trace last s PassiveIdle (Framed f) fits e b v i =
    let x = record (At c s) { phase = PassiveIdle } in
    (e.knows, waits_answer c s.quiet (answer_to c.p x c.now f passive) s.reply v (mapped_ready (c.now + c.p.tsdr) _ (λ _. refl) _) (over_now c trace s.quiet s.own last s.address (Framed f) e b (framed-some f)))
end_reads c trace last s PassiveIdle Acknowledgement fits e b v i = (e.knows, waits_none c (max s.quiet c.now) s.reply v)
end_reads c trace last s PassiveIdle NoTelegram fits e b v i = (e.knows, waits_none c (max s.quiet c.now) s.reply v)
end_reads c trace last s (Listening doubled) (Token da sa) fits e b v i =
    by_test (λ ph. KnowsIn c trace ph false (max s.quiet c.now) s.own × ViewOf c trace last ph false (max s.quiet c.now) s.own s.reply) (sa == s.address) (if doubled then Offline else Listening true) (Listening doubled)
    (λ _. by_test (λ ph. KnowsIn c trace ph false (max s.quiet c.now) s.own × ViewOf c trace last ph false (max s.quiet c.now) s.own s.reply) doubled Offline (Listening true) (λ _. (tt, tt)) (λ _. (e.knows, waits_none c (max s.quiet c.now) s.reply v)))
    (λ _. (e.knows, waits_none c (max s.quiet c.now) s.reply v))
end_reads c trace last s (Listening doubled) (Framed f) fits e b v i =
    let x = record (At c s) { phase = Listening doubled } in (
      e.knows,
      waits_answer c s.quiet (listening_answer c.p x c.now f) s.reply v
          (by_test (λ o. IfSome o (λ r. r.ready ≡ c.now + c.p.tsdr)) (is_complete s.las.stage) (status_answer c.p x c.now f ready_for_ring true) (status_answer c.p x c.now f not_ready false)
          (λ _. if_ready (c.now + c.p.tsdr) (asks_status s.address f) _ refl) (λ _. if_ready (c.now + c.p.tsdr) (asks_status s.address f) _ refl))
          (over_now c trace s.quiet s.own last s.address (Framed f) e b (framed-some f)),
    )
end_reads c trace last s (Listening doubled) Acknowledgement fits e b v i = (e.knows, waits_none c (max s.quiet c.now) s.reply v)
end_reads c trace last s (Listening doubled) NoTelegram fits e b v i = (e.knows, waits_none c (max s.quiet c.now) s.reply v)
end_reads c trace last s (Idle refused) (Token da sa) fits e b v i = idle_token c trace last s refused da sa fits e b v
end_reads c trace last s (Idle refused) (Framed f) fits e b v i =
    let x = record (At c s) { phase = Idle refused } in
    (e.knows, waits_answer c s.quiet (answer_to c.p x c.now f in_ring) s.reply v (mapped_ready (c.now + c.p.tsdr) _ (λ _. refl) _) (over_now c trace s.quiet s.own last s.address (Framed f) e b (framed-some f)))
end_reads c trace last s (Idle refused) Acknowledgement fits e b v i = (e.knows, waits_none c (max s.quiet c.now) s.reply v)
end_reads c trace last s (Idle refused) NoTelegram fits e b v i = (e.knows, waits_none c (max s.quiet c.now) s.reply v)
end_reads c trace last s (Claim sent ready) a fits e b v i = absurd (let w = v.0 in cc)
end_reads c trace last s (Use asked ready) a fits e b v i = absurd (let w = v.0 in cc)
end_reads c trace last s (AwaitData asked retry true) a fits e b v i = absurd (let w = v.0.1 in cc)
end_reads c trace last s (AwaitData asked retry false) (Token da sa) fits e b v i = (e.knows, waits_none c (max s.quiet c.now) s.reply i)
end_reads c trace last s (AwaitData asked retry false) (Framed f) fits e b v i =
    by_test (Reads c trace last) (has_bit f.fc 6) _ _ (λ _. (e.knows, waits_none c (max s.quiet c.now) s.reply i))
    (λ _. data_reads c trace last (record s { phase = AwaitData asked retry false }) asked (message.Framed f) _ fits e (over_now c trace s.quiet s.own last s.address (Framed f) e b (framed-some f)) v.1 v.2)
end_reads c trace last s (AwaitData asked retry false) Acknowledgement fits e b v i =
    data_reads c trace last (record s { phase = AwaitData asked retry false }) asked message.Acknowledgement _ fits e (over_now c trace s.quiet s.own last s.address Acknowledgement e b ack-some) v.1 v.2
end_reads c trace last s (AwaitData asked retry false) NoTelegram fits e b v i = none_reads c trace last (record s { phase = AwaitData asked retry false }) asked fits e v.1 v.2
end_reads c trace last s (AwaitStatus of slot) (Token da sa) fits e b v i = (e.knows, waits_none c (max s.quiet c.now) s.reply i)
end_reads c trace last s (AwaitStatus of slot) (Framed f) fits e b v i =
    by_test (Reads c trace last) (has_bit f.fc 6) _ _ (λ _. (e.knows, waits_none c (max s.quiet c.now) s.reply i))
    (λ _. status_reads c trace last (record s { phase = AwaitStatus of slot }) of _ fits e (over_now c trace s.quiet s.own last s.address (Framed f) e b (framed-some f)) v.1 v.2)
end_reads c trace last s (AwaitStatus of slot) Acknowledgement fits e b v i =
    status_reads c trace last (record s { phase = AwaitStatus of slot }) of None fits e (over_now c trace s.quiet s.own last s.address Acknowledgement e b ack-some) v.1 v.2
end_reads c trace last s (AwaitStatus of slot) NoTelegram fits e b v i = (e.knows, used_again c trace last true s.quiet (max c.now s.own.end + c.p.tid1) s.own s.reply fits e (resumes c trace s.quiet s.own e) v.1 v.2)
end_reads c trace last s (Pass tries ready) a fits e b v i = absurd v
end_reads c trace last s (Checking tries) a fits e b v i = absurd (let w = v.0 in cc)
