-- Rules of a station's requests and replies.
use Rattle.std.proofs.Common.{◌≡◌, ◌∙◌, ℕ, ◌+◌, ◌<◌, ◌≤◌, ◌||◌, ◌&&◌, List, [], ◌∷◌, ◌++◌, length, zero, suc, Bool, true, false, if◌then◌else◌, refl, ap, sym, subst, arith, Option, Some, None}
use Rattle.std.specs.Prelude.{IfSome, is_some, max, nat_le, slice_set, drop}
use Rattle.std.proofs.lemmas.Bool.{le-ltb, lt-ltb, le-leb, eq-eqb, ne_eqb}
use Rattle.pb_timers.specs.Timers.{Params, bits}
use Rattle.pb_ring.specs.Gap.{next_asked, last_asked}
use Rattle.pb_ring.specs.Las.{is_complete}
use Rattle.pb_rotation.specs.Rotation.{Receipt, used, holding_left, may_low, may_high, is_unused}
use Rattle.std.specs.Option.{option_map}
use Rattle.pb_cycles.specs.Fields.{Fields}
use Rattle.pb_cycles.specs.Messages.{has_bit, frame_octets}
use Rattle.pb_cycles.specs.declared.messages.Message.{Message}
use Rattle.pb_cycles.specs.declared.messages.Message.TheVariants as message
use Rattle.pb_cycles.specs.declared.messages.Reply as cycles
use Rattle.pb_cycles.specs.Queued.{Queued, put}
use Rattle.pb_cycles.specs.RequestFields.{RequestFields}
use Rattle.pb_cycles.specs.Requests.{is_answered}
use Rattle.pb_cycles.specs.Counts.{count_at}
use Rattle.pb_telegram.specs.Control.{count_bits}
use Rattle.pb_cycles.specs.Initiating.{bits_for, first_sending, after_request, retry_of, message_outcome, outcome_of}
use Rattle.pb_cycles.specs.Outcomes.{reply_outcome}
use Rattle.pb_cycles.specs.Responding.{reply_to_framed}
use Rattle.pb_telegram.specs.declared.control.FrameCount.{FrameCount}
use Rattle.pb_telegram.specs.declared.control.FrameCount.TheVariants.{First}
use Rattle.pb_cycles.specs.declared.initiators.OpenRequest.{OpenRequest}
use Rattle.pb_cycles.specs.declared.outcomes.Outcome.{Outcome}
use Rattle.pb_cycles.specs.declared.outcomes.Outcome.TheVariants.{Acked, NoAnswer}
use Rattle.law_turn.specs.Arrivals.{Arrival, Token, Framed, Acknowledgement, NoTelegram, arrival_of}
use Rattle.law_turn.specs.Hearing.{asked_station, outcome_at, cycle_closed, not_answered, phase_timed_out, timed_out, after_timer, phase_begun, begun, passive, in_ring, asks_status, answer_to, listening_answer, passive_hears, lost, data_told, awaiting_data_hears, after_mark}
use Rattle.law_turn.specs.Laws.{are_initiator, HasReply, HasCycles, WaitsInPlace}
use Rattle.law_turn.specs.Marks.{Mark, Begin, End, moment_of}
use Rattle.law_turn.specs.Phases.{Phase, Offline, PassiveIdle, Listening, Idle, Claim, Use, AwaitData, AwaitStatus, Pass, Checking, answers_requests, is_offline, may_initiate}
use Rattle.law_turn.specs.Stations.{Station, Cycles, Reply, phase_speaks, speaks_at, next_station, list_for, pushed}
use Rattle.law_turn.specs.Turns.{after_marks, settled, saying, says_token, says_look, longest_waiting, high_request, low_request, high_taken, low_taken, says_request, says_low, says_high, says_again, says_reply, phase_says, speech, turn_of}
use Rattle.law_turn.proofs.Busy.{silent-begun}
use Rattle.law_turn.proofs.InPlace.{none-begun}
use Rattle.law_turn.proofs.Cases.{by_test, or-true}
use Rattle.law_turn.proofs.Initiating.{holder-turn_of}
use Rattle.law_turn.proofs.Keeping.{waiting_reply}
use Rattle.law_turn.proofs.Moments.{turn_of-nothing_due}
use Rattle.law_turn.proofs.Paths.{at_end}
use Rattle.law_turn.proofs.Saying.{due_in_waiting}

-- ---- holding time

-- where none is left
no_low : (s : Station) (now : ℕ) → holding_left s.rotation now ≡ 0 → may_low s.rotation now ≡ false
no_low s now none = le-ltb 0 (holding_left s.rotation now) (omega arith)

no_low_request : (s : Station) (now : ℕ) → holding_left s.rotation now ≡ 0 → low_request s now ≡ None
no_low_request s now none = ap (λ (b : Bool). if b then longest_waiting s.cycles.queue.low else None) (no_low s now none)

passes-on : (p : Params) (s : Station) (asked : Bool) (now : ℕ) → holding_left s.rotation now ≡ 0 → says_low p s asked (low_request s now) now ≡ says_token p s 0 now
passes-on p s asked now none =
    ap (λ (o : Option RequestFields). says_low p s asked o now) (no_low_request s now none)
    ∙ ap (λ (b : Bool). if b then says_look p s (next_asked s.address (next_station s) p.hsa (last_asked s.gap)) now else says_token p s 0 now)
    (no_looks (may_low s.rotation now) _ (no_low s now none))
  where
    no_looks : (a b : Bool) → a ≡ false → (a && b) ≡ false
    no_looks true b e = absurd (let wrong : true ≡ false = e in cc)
    no_looks false b e = refl

no_high : (s : Station) (now : ℕ) → holding_left s.rotation now ≡ 0 → is_unused s.rotation.last ≡ false → high_request s now ≡ None
no_high s now none used =
    ap (λ (b : Bool). if b || is_unused s.rotation.last then longest_waiting s.cycles.queue.high else None) (no_low s now none)
    ∙ ap (λ (b : Bool). if b then longest_waiting s.cycles.queue.high else None) used

-- the token goes on where a high request was sent before
pub held-second : (p : Params) (s : Station) (asked : Bool) (ready now : ℕ) → holding_left s.rotation now ≡ 0 → is_unused s.rotation.last ≡ false
    → phase_says p (record s { phase = Use asked ready }) (Use asked ready) now ≡ says_token p (record s { phase = Use asked ready }) 0 now
held-second p s asked ready now none used =
    let x = record s { phase = Use asked ready } in
    ap (λ (o : Option RequestFields). says_high p x asked o now) (no_high x now none used) ∙ passes-on p x asked now none

no_high_waits : (s : Station) (now : ℕ) → s.cycles.queue.high ≡ [] → high_request s now ≡ None
no_high_waits s now empty = by_test (λ (o : Option RequestFields). o ≡ None) (may_high s.rotation now) _ None (λ _. ap longest_waiting empty) (λ _. refl)

-- and where none waits
pub held-low : (p : Params) (s : Station) (asked : Bool) (ready now : ℕ) → holding_left s.rotation now ≡ 0 → s.cycles.queue.high ≡ []
    → phase_says p (record s { phase = Use asked ready }) (Use asked ready) now ≡ says_token p (record s { phase = Use asked ready }) 0 now
held-low p s asked ready now none empty =
    let x = record s { phase = Use asked ready } in
    ap (λ (o : Option RequestFields). says_high p x asked o now) (no_high_waits x now empty)
    ∙ passes-on p x asked now none

-- one high request of a receipt needs no holding time
pub high-first : (p : Params) (s : Station) (asked : Bool) (ready now : ℕ) (r : RequestFields) (rs : List RequestFields) → is_unused s.rotation.last ≡ true
    → s.cycles.queue.high ≡ r ∷ rs
    → phase_says p (record s { phase = Use asked ready }) (Use asked ready) now ≡ says_request p (high_taken (record s { phase = Use asked ready })) asked r now
high-first p s asked ready now r rs unused waits =
    let x = record s { phase = Use asked ready } in
    ap (λ (o : Option RequestFields). says_high p x asked o now)
    (ap (λ (b : Bool). if b then longest_waiting s.cycles.queue.high else None) (or-true (may_low s.rotation now) _ unused) ∙ ap longest_waiting waits)

-- which is none that is unused then
pub high-used : (s : Station) → is_unused (high_taken s).rotation.last ≡ false
high-used s = by_last s.rotation.last
  where
    by_last : (o : Option Receipt) → is_unused (option_map used o) ≡ false
    by_last None = refl
    by_last (Some last) = refl

-- ---- requests without an answer

pub told-on : (p : Params) (s : Station) (asked : Bool) (r : RequestFields) (now : ℕ) → is_answered r.service ≡ false
    → (says_request p s asked r now).0.phase ≡ Use asked (now + bits (length (frame_octets (first_sending s.cycles.initiator s.address r))) + p.tid2)
told-on p s asked r now not =
    let x = record (saying s now (frame_octets (first_sending s.cycles.initiator s.address r))) { cycles = record s.cycles { initiator = after_request s.cycles.initiator s.address r } } in
    ap (λ (b : Bool). (if b then record x { phase = AwaitData asked None true } else record x { phase = Use asked (x.own.end + p.tid2) }).phase) not

-- ---- a begin

-- who answers requests is not offline
on-answers : (ph : Phase) → answers_requests ph ≡ true → is_offline ph ≡ false
on-answers Offline e = absurd (let wrong : false ≡ true = e in cc)
on-answers PassiveIdle e = refl
on-answers (Listening doubled) e = refl
on-answers (Idle refused) e = refl
on-answers (Claim sent ready) e = refl
on-answers (Use asked ready) e = refl
on-answers (AwaitData asked retry slot) e = refl
on-answers (AwaitStatus of slot) e = refl
on-answers (Pass tries ready) e = refl
on-answers (Checking tries) e = refl

pub begin-drops : (p : Params) (s : Station) (at seen : ℕ) → answers_requests s.phase ≡ true → (after_mark p s (Begin at seen)).reply ≡ None
begin-drops p s at seen answers =
    ap (λ (b : Bool). (if b then s else begun s at).reply) (on-answers s.phase answers) ∙ ap (λ (b : Bool). if b then None else s.reply) answers

pub begin-keeps : (p : Params) (s : Station) (at seen : ℕ) → answers_requests s.phase ≡ false → (after_mark p s (Begin at seen)).reply ≡ s.reply
begin-keeps p s at seen answers =
    by_test (λ (x : Station). x.reply ≡ s.reply) (is_offline s.phase) s (begun s at) (λ _. refl) (λ _. ap (λ (b : Bool). if b then None else s.reply) answers)

pub begin-silences : (p : Params) (s : Station) (at seen : ℕ) → is_offline s.phase ≡ false → WaitsInPlace s.phase s.reply
    → speaks_at (after_mark p s (Begin at seen)) ≡ None
begin-silences p s at seen on here =
    ap (λ (b : Bool). speaks_at (if b then s else begun s at)) on
    ∙ ap (λ (o : Option Reply). phase_speaks o (phase_begun s.phase s.own.begin at)) (none-begun s.phase s.reply here)
    ∙ silent-begun s.phase s.own.begin at

-- ---- a slot

abbrev waiting : Station → Bool → Station
waiting s asked = record s { phase = AwaitData asked None true; busy = false }

pub slot-waits : (p : Params) (s : Station) (asked : Bool) (now : ℕ) → now < s.own.end + p.tsl → turn_of p (waiting s asked) [] now ≡ (waiting s asked, None)
slot-waits p s asked now early =
    turn_of-nothing_due p (waiting s asked) now
    (subst (λ (o : Option ℕ). IfSome o (λ due. now < due)) (sym (due_in_waiting p (waiting s asked) asked refl refl)) early)

slot-ended : (p : Params) (s : Station) (asked : Bool) (now : ℕ) → s.own.end + p.tsl ≤ now
    → after_timer p (now + 1) (waiting s asked) ≡ not_answered (waiting s asked) asked false (s.own.end + p.tsl)
slot-ended p s asked now late =
    ap (λ (b : Bool). if b then not_answered (waiting s asked) asked false (s.own.end + p.tsl) else waiting s asked) (lt-ltb (s.own.end + p.tsl) (now + 1) (omega arith))

-- and is sent again then
pub slot-again : (p : Params) (s : Station) (asked : Bool) (now : ℕ) (f : Fields) → s.own.end + p.tsl ≤ now → retry_of s.cycles.initiator.pending ≡ Some f
    → (turn_of p (waiting s asked) [] now).1 ≡ Some (frame_octets f)
slot-again p s asked now f late left =
    let x = waiting s asked in
    let t = s.own.end + p.tsl in
    let y = record x { phase = AwaitData asked (Some t) false } in
    ap (λ (z : Station). (speech p z (speaks_at z) now).1)
    (slot-ended p s asked now late
    ∙ ap (λ (b : Bool). if b then y else record x { phase = Use asked t; cycles = cycle_closed x.cycles None }) (ap is_some left))
    ∙ ap (λ (b : Bool). (if b then says_again y asked (retry_of s.cycles.initiator.pending) now else (y, None)).1) (le-leb t now late)
    ∙ ap (λ (o : Option Fields). (says_again y asked o now).1) left

-- ---- no answer

none-left : (o : OpenRequest) → o.left ≡ 0 → is_some (retry_of (Some o)) ≡ false
none-left o none = ap (λ (b : Bool). is_some (if b then None else Some o.sent)) (eq-eqb o.left 0 none)

one-left : (o : OpenRequest) → 0 < o.left → is_some (retry_of (Some o)) ≡ true
one-left o left = ap (λ (b : Bool). is_some (if b then None else Some o.sent)) (ne_eqb o.left 0 (λ none. omega (arith, none, left)))

first-set : (counts : List FrameCount) (d : ℕ) → count_at (slice_set counts d First) d ≡ First
first-set [] d = refl
first-set (c ∷ cs) zero = refl
first-set (c ∷ cs) (suc d) = first-set cs d

-- a request that is given up
given_up : (s : Station) (asked : Bool) (retry : Option ℕ) (slot : Bool) (t : ℕ) (o : OpenRequest) → s.cycles.initiator.pending ≡ Some o → o.left ≡ 0
    → phase_timed_out s (AwaitData asked retry slot) t ≡ record s { phase = Use asked t; cycles = cycle_closed s.cycles None }
given_up s asked retry slot t o pending none =
    ap (λ (b : Bool). if b then record s { phase = AwaitData asked (Some t) false } else record s { phase = Use asked t; cycles = cycle_closed s.cycles None })
    (ap (λ (o : Option OpenRequest). is_some (retry_of o)) pending ∙ none-left o none)

abbrev with_open : Cycles → Option OpenRequest → Cycles
with_open c o = record c { initiator = record c.initiator { pending = o } }

pub unanswered-outcome : (s : Station) (asked : Bool) (retry : Option ℕ) (slot : Bool) (t : ℕ) (o : OpenRequest) → s.cycles.initiator.pending ≡ Some o → o.left ≡ 0
    → (phase_timed_out s (AwaitData asked retry slot) t).cycles.last_outcome ≡ Some (o.sent.da, NoAnswer)
unanswered-outcome s asked retry slot t o pending none =
    ap (λ (x : Station). x.cycles.last_outcome) (given_up s asked retry slot t o pending none)
    ∙ ap (λ (x : Option OpenRequest). (cycle_closed (with_open s.cycles x) None).last_outcome) pending

pub unanswered-use : (s : Station) (asked : Bool) (retry : Option ℕ) (slot : Bool) (t : ℕ) (o : OpenRequest) → s.cycles.initiator.pending ≡ Some o → o.left ≡ 0
    → (phase_timed_out s (AwaitData asked retry slot) t).phase ≡ Use asked t
unanswered-use s asked retry slot t o pending none = ap (λ (x : Station). x.phase) (given_up s asked retry slot t o pending none)

-- the next request to the address is a first one
pub unanswered-first : (s : Station) (asked : Bool) (retry : Option ℕ) (slot : Bool) (t : ℕ) (o : OpenRequest) (r : RequestFields) → s.cycles.initiator.pending ≡ Some o → o.left ≡ 0
    → r.da ≡ o.sent.da → is_answered r.service ≡ true → bits_for (phase_timed_out s (AwaitData asked retry slot) t).cycles.initiator r ≡ 0x20
unanswered-first s asked retry slot t o r pending none to answered =
    ap (λ (x : Station). bits_for x.cycles.initiator r) (given_up s asked retry slot t o pending none)
    ∙ ap (λ (x : Option OpenRequest). bits_for (cycle_closed (with_open s.cycles x) None).initiator r) pending
    ∙ ap (λ (b : Bool). if b then count_bits (count_at (slice_set s.cycles.initiator.counts o.sent.da First) r.da) else 0) answered
    ∙ ap (λ (d : ℕ). count_bits (count_at (slice_set s.cycles.initiator.counts o.sent.da First) d)) to
    ∙ ap count_bits (first-set s.cycles.initiator.counts o.sent.da)

-- ---- a passive station

abbrev IsPassive : Station → Type 0
IsPassive s = s.phase ≡ PassiveIdle

passive-timer : (p : Params) (limit : ℕ) (s : Station) (ph : Phase) → ph ≡ PassiveIdle → IsPassive (after_timer p limit (record s { phase = ph }))
passive-timer p limit s ph e =
    subst (λ (ph : Phase). IsPassive (after_timer p limit (record s { phase = ph }))) (sym e) (by_busy s.busy)
  where
    by_busy : (b : Bool) → IsPassive (timed_out (record s { phase = PassiveIdle }) (if b then None else None) limit)
    by_busy true = refl
    by_busy false = refl

passive-hears : (p : Params) (s : Station) (at : ℕ) (a : Arrival) → IsPassive s → IsPassive (passive_hears p s at a)
passive-hears p s at (Token da sa) e = e
passive-hears p s at (Framed f) e = e
passive-hears p s at Acknowledgement e = e
passive-hears p s at NoTelegram e = e

passive-mark : (p : Params) (s : Station) (ph : Phase) (m : Mark) → ph ≡ PassiveIdle → IsPassive (after_mark p (record s { phase = ph }) m)
passive-mark p s ph (Begin at seen) e = subst (λ (ph : Phase). IsPassive (after_mark p (record s { phase = ph }) (Begin at seen))) (sym e) refl
passive-mark p s ph (End at seen chars) e =
    subst (λ (ph : Phase). IsPassive (after_mark p (record s { phase = ph }) (End at seen chars))) (sym e)
    (passive-hears p (at_end (record s { phase = PassiveIdle }) at) at (arrival_of chars) refl)

passive-marks : (p : Params) (s : Station) (marks : List Mark) → IsPassive s → IsPassive (after_marks p s marks)
passive-marks p s [] e = e
passive-marks p s (m ∷ marks) e =
    let x = after_timer p (moment_of m) s in
    passive-marks p (after_mark p x m) marks (passive-mark p x x.phase m (passive-timer p (moment_of m) s s.phase e))

passive-settled : (p : Params) (s : Station) (marks : List Mark) (now : ℕ) → IsPassive s → IsPassive (settled p s marks now)
passive-settled p s marks now e =
    let x = after_marks p s marks in passive-timer p (now + 1) x x.phase (passive-marks p s marks e)

passive-says : (p : Params) (s : Station) (ph : Phase) (o : Option ℕ) (now : ℕ) → ph ≡ PassiveIdle → IsPassive (speech p (record s { phase = ph }) o now).0
passive-says p s ph o now e = subst (λ (ph : Phase). IsPassive (speech p (record s { phase = ph }) o now).0) (sym e) (by_moment o)
  where
    by_reply : (r : Option Reply) → IsPassive (says_reply (record s { phase = PassiveIdle }) r now).0
    by_reply None = refl
    by_reply (Some r) = refl

    by_moment : (o : Option ℕ) → IsPassive (speech p (record s { phase = PassiveIdle }) o now).0
    by_moment None = refl
    by_moment (Some moment) =
        by_test (λ (turn : Station × Option (List ℕ)). IsPassive turn.0) (nat_le moment now) _ (record s { phase = PassiveIdle }, None) (λ _. by_reply s.reply) (λ _. refl)

pub passive-stays : (p : Params) (s : Station) (marks : List Mark) (now : ℕ) → s.phase ≡ PassiveIdle → (turn_of p s marks now).0.phase ≡ PassiveIdle
passive-stays p s marks now e =
    let x = settled p s marks now in passive-says p x x.phase (speaks_at x) now (passive-settled p s marks now e)

no_initiator : (b holds : Bool) → holds ≡ false → (b ≡ true → holds ≡ true) → b ≡ false
no_initiator true holds e only = absurd (let wrong : true ≡ false = sym (only refl) ∙ e in cc)
no_initiator false holds e only = refl

pub passive-replies : (p : Params) (s : Station) (marks : List Mark) (now : ℕ) → HasReply s → HasCycles s → s.phase ≡ PassiveIdle
    → IfSome (turn_of p s marks now).1 (λ octets. are_initiator octets ≡ false)
passive-replies p s marks now reply cycles e =
    by_octets (turn_of p s marks now).1 (holder-turn_of p s marks now (reply, cycles))
  where
    by_octets : (o : Option (List ℕ)) → IfSome o (λ octets. are_initiator octets ≡ true → may_initiate (settled p s marks now).phase ≡ true)
        → IfSome o (λ octets. are_initiator octets ≡ false)
    by_octets None only = tt
    by_octets (Some octets) only = no_initiator (are_initiator octets) _ (ap may_initiate (passive-settled p s marks now e)) only

-- ---- what is sent first

pub high-next : (p : Params) (s : Station) (asked : Bool) (ready now : ℕ) (r : RequestFields) (rs : List RequestFields) → may_high s.rotation now ≡ true
    → s.cycles.queue.high ≡ r ∷ rs
    → phase_says p (record s { phase = Use asked ready }) (Use asked ready) now ≡ says_request p (high_taken (record s { phase = Use asked ready })) asked r now
high-next p s asked ready now r rs may waits =
    let x = record s { phase = Use asked ready } in
    ap (λ (o : Option RequestFields). says_high p x asked o now)
    (ap (λ (b : Bool). if b then longest_waiting s.cycles.queue.high else None) may ∙ ap longest_waiting waits)

pub low-next : (p : Params) (s : Station) (asked : Bool) (ready now : ℕ) (r : RequestFields) (rs : List RequestFields) → s.cycles.queue.high ≡ []
    → may_low s.rotation now ≡ true → s.cycles.queue.low ≡ r ∷ rs
    → phase_says p (record s { phase = Use asked ready }) (Use asked ready) now ≡ says_request p (low_taken (record s { phase = Use asked ready })) asked r now
low-next p s asked ready now r rs empty may waits =
    let x = record s { phase = Use asked ready } in
    ap (λ (o : Option RequestFields). says_high p x asked o now) (no_high_waits x now empty)
    ∙ ap (λ (o : Option RequestFields). says_low p x asked o now)
    (ap (λ (b : Bool). if b then longest_waiting s.cycles.queue.low else None) may ∙ ap longest_waiting waits)

-- ---- what comes in place of a reply

abbrev heard_data : Params → Station → Bool → Bool → ℕ → Message → Station
heard_data p s asked slot at m = data_told p s asked slot at m (outcome_of s.cycles.initiator (Some m))

data-framed : (p : Params) (s : Station) (asked slot : Bool) (at : ℕ) (f : Fields) → has_bit f.fc 6 ≡ false
    → awaiting_data_hears p s asked slot at (Framed f) ≡ heard_data p s asked slot at (message.Framed f)
data-framed p s asked slot at f reply = ap (λ (b : Bool). if b then lost s else heard_data p s asked slot at (message.Framed f)) reply

-- an outcome closes the cycle
data-closed : (p : Params) (s : Station) (asked slot : Bool) (at : ℕ) (m : Message) (o : OpenRequest) (outcome : Outcome) → s.cycles.initiator.pending ≡ Some o
    → reply_outcome o.sent.sa o.sent.da m ≡ Some outcome
    → heard_data p s asked slot at m ≡ record s { phase = Use asked (at + p.tid1); cycles = cycle_closed s.cycles (Some m) }
data-closed p s asked slot at m o outcome pending told =
    ap (λ (x : Option Outcome). data_told p s asked slot at m x) (ap (λ (x : Option OpenRequest). message_outcome x m) pending ∙ told)

closed-outcome : (c : Cycles) (m : Message) (o : OpenRequest) (outcome : Outcome) → c.initiator.pending ≡ Some o → reply_outcome o.sent.sa o.sent.da m ≡ Some outcome
    → (cycle_closed c (Some m)).last_outcome ≡ Some (o.sent.da, outcome)
closed-outcome c m o outcome pending told =
    ap (λ (x : Option OpenRequest). outcome_at (asked_station x) (message_outcome x m) c.last_outcome) pending
    ∙ ap (λ (x : Option Outcome). outcome_at (Some o.sent.da) x c.last_outcome) told

pub reply-told : (p : Params) (s : Station) (asked slot : Bool) (at : ℕ) (f : Fields) (o : OpenRequest) (outcome : Outcome) → has_bit f.fc 6 ≡ false
    → s.cycles.initiator.pending ≡ Some o → reply_outcome o.sent.sa o.sent.da (message.Framed f) ≡ Some outcome
    → (awaiting_data_hears p s asked slot at (Framed f)).cycles.last_outcome ≡ Some (o.sent.da, outcome)
reply-told p s asked slot at f o outcome reply pending told =
    ap (λ (x : Station). x.cycles.last_outcome) (data-framed p s asked slot at f reply ∙ data-closed p s asked slot at (message.Framed f) o outcome pending told)
    ∙ closed-outcome s.cycles (message.Framed f) o outcome pending told

pub reply-goes_on : (p : Params) (s : Station) (asked slot : Bool) (at : ℕ) (f : Fields) (o : OpenRequest) (outcome : Outcome) → has_bit f.fc 6 ≡ false
    → s.cycles.initiator.pending ≡ Some o → reply_outcome o.sent.sa o.sent.da (message.Framed f) ≡ Some outcome
    → (awaiting_data_hears p s asked slot at (Framed f)).phase ≡ Use asked (at + p.tid1)
reply-goes_on p s asked slot at f o outcome reply pending told =
    ap (λ (x : Station). x.phase) (data-framed p s asked slot at f reply ∙ data-closed p s asked slot at (message.Framed f) o outcome pending told)

pub reply-acknowledged : (p : Params) (s : Station) (asked slot : Bool) (at : ℕ) (o : OpenRequest) → s.cycles.initiator.pending ≡ Some o
    → (awaiting_data_hears p s asked slot at Acknowledgement).cycles.last_outcome ≡ Some (o.sent.da, Acked)
reply-acknowledged p s asked slot at o pending =
    ap (λ (x : Station). x.cycles.last_outcome) (data-closed p s asked slot at message.Acknowledgement o Acked pending refl)
    ∙ closed-outcome s.cycles message.Acknowledgement o Acked pending refl

-- anything else than a reply
again-ready : (s : Station) (asked slot : Bool) (ready : ℕ) (o : OpenRequest) → s.cycles.initiator.pending ≡ Some o → 0 < o.left
    → (not_answered s asked slot ready).phase ≡ AwaitData asked (Some ready) slot
again-ready s asked slot ready o pending left =
    ap (λ (b : Bool). (if b then record s { phase = AwaitData asked (Some ready) slot } else record s { phase = Use asked ready; cycles = cycle_closed s.cycles None }).phase)
    (ap (λ (x : Option OpenRequest). is_some (retry_of x)) pending ∙ one-left o left)

pub again-framed : (p : Params) (s : Station) (asked slot : Bool) (at : ℕ) (f : Fields) (o : OpenRequest) → has_bit f.fc 6 ≡ false
    → s.cycles.initiator.pending ≡ Some o → reply_outcome o.sent.sa o.sent.da (message.Framed f) ≡ None → 0 < o.left
    → (awaiting_data_hears p s asked slot at (Framed f)).phase ≡ AwaitData asked (Some (max at s.own.end + p.tid1)) slot
again-framed p s asked slot at f o reply pending none left =
    ap (λ (x : Station). x.phase) (data-framed p s asked slot at f reply)
    ∙ ap (λ (x : Option Outcome). (data_told p s asked slot at (message.Framed f) x).phase) (ap (λ (x : Option OpenRequest). message_outcome x (message.Framed f)) pending ∙ none)
    ∙ again-ready s asked slot (max at s.own.end + p.tid1) o pending left

pub again-damaged : (p : Params) (s : Station) (asked slot : Bool) (at : ℕ) (o : OpenRequest) → s.cycles.initiator.pending ≡ Some o → 0 < o.left
    → (awaiting_data_hears p s asked slot at NoTelegram).phase ≡ AwaitData asked (Some (max at s.own.end + p.tid1)) slot
again-damaged p s asked slot at o pending left = again-ready s asked slot (max at s.own.end + p.tid1) o pending left

-- ---- the delay of a reply

abbrev IsReadyAt : ℕ → Option Reply → Type 0
IsReadyAt moment o = IfSome o (λ r. r.ready ≡ moment)

ready-answer : (p : Params) (at : ℕ) (o : Option cycles.Reply) → IsReadyAt (at + p.tsdr) (option_map (waiting_reply p at) o)
ready-answer p at None = tt
ready-answer p at (Some r) = refl

pub ready-answer_to : (p : Params) (s : Station) (at : ℕ) (f : Fields) (station_type : ℕ) → IfSome (answer_to p s at f station_type) (λ r. r.ready ≡ at + p.tsdr)
ready-answer_to p s at f station_type = ready-answer p at (reply_to_framed s.cycles.responder s.address station_type f)

pub ready-listening : (p : Params) (s : Station) (at : ℕ) (f : Fields) → IfSome (listening_answer p s at f) (λ r. r.ready ≡ at + p.tsdr)
ready-listening p s at f =
    by_test (IsReadyAt (at + p.tsdr)) (is_complete s.las.stage) _ _
    (λ _. by_test (IsReadyAt (at + p.tsdr)) (asks_status s.address f) _ None (λ _. refl) (λ _. tt))
    (λ _. by_test (IsReadyAt (at + p.tsdr)) (asks_status s.address f) _ None (λ _. refl) (λ _. tt))

-- ---- the requests that wait

queue-request : (p : Params) (s : Station) (asked : Bool) (r : RequestFields) (now : ℕ) → (says_request p s asked r now).0.cycles.queue ≡ s.cycles.queue
queue-request p s asked r now = by_test (λ (x : Station). x.cycles.queue ≡ s.cycles.queue) (is_answered r.service) _ _ (λ _. refl) (λ _. refl)

-- one that is sent waits no longer
pub high-left : (p : Params) (s : Station) (asked : Bool) (ready now : ℕ) (r : RequestFields) (rs : List RequestFields) → may_high s.rotation now ≡ true
    → s.cycles.queue.high ≡ r ∷ rs → (phase_says p (record s { phase = Use asked ready }) (Use asked ready) now).0.cycles.queue.high ≡ rs
high-left p s asked ready now r rs may waits =
    ap (λ (turn : Station × Option (List ℕ)). turn.0.cycles.queue.high) (high-next p s asked ready now r rs may waits)
    ∙ ap (λ (q : Queued). q.high) (queue-request p (high_taken (record s { phase = Use asked ready })) asked r now)
    ∙ ap (drop 1) waits

pub low-left : (p : Params) (s : Station) (asked : Bool) (ready now : ℕ) (r : RequestFields) (rs : List RequestFields) → s.cycles.queue.high ≡ []
    → may_low s.rotation now ≡ true → s.cycles.queue.low ≡ r ∷ rs
    → (phase_says p (record s { phase = Use asked ready }) (Use asked ready) now).0.cycles.queue.low ≡ rs
low-left p s asked ready now r rs empty may waits =
    ap (λ (turn : Station × Option (List ℕ)). turn.0.cycles.queue.low) (low-next p s asked ready now r rs empty may waits)
    ∙ ap (λ (q : Queued). q.low) (queue-request p (low_taken (record s { phase = Use asked ready })) asked r now)
    ∙ ap (drop 1) waits

put-room : (xs : List RequestFields) (r : RequestFields) → length xs < 16 → put xs r ≡ xs ++ r ∷ []
put-room xs r room = ap (λ (b : Bool). if b then xs ++ r ∷ [] else xs) (lt-ltb (length xs) 16 room)

put-full : (xs : List RequestFields) (r : RequestFields) → 16 ≤ length xs → put xs r ≡ xs
put-full xs r full = ap (λ (b : Bool). if b then xs ++ r ∷ [] else xs) (le-ltb (length xs) 16 full)

-- one more waits behind the others of its priority
pub pushed-high : (s : Station) (r : RequestFields) → r.high ≡ true → length s.cycles.queue.high < 16 → (pushed s r).cycles.queue.high ≡ s.cycles.queue.high ++ r ∷ []
pushed-high s r high room =
    let q = s.cycles.queue in
    ap (λ (b : Bool). (if b then record q { high = put q.high r } else record q { low = put q.low r }).high) high ∙ put-room q.high r room

pub pushed-low : (s : Station) (r : RequestFields) → r.high ≡ false → length s.cycles.queue.low < 16 → (pushed s r).cycles.queue.low ≡ s.cycles.queue.low ++ r ∷ []
pushed-low s r low room =
    let q = s.cycles.queue in
    ap (λ (b : Bool). (if b then record q { high = put q.high r } else record q { low = put q.low r }).low) low ∙ put-room q.low r room

queued-full : (q : Queued) (r : RequestFields) (high : Bool) → 16 ≤ length (if high then q.high else q.low)
    → (if high then record q { high = put q.high r } else record q { low = put q.low r }) ≡ q
queued-full q r true full = ap (λ (xs : List RequestFields). record q { high = xs }) (put-full q.high r full)
queued-full q r false full = ap (λ (xs : List RequestFields). record q { low = xs }) (put-full q.low r full)

pub pushed-full : (s : Station) (r : RequestFields) → 16 ≤ length (list_for s.cycles.queue r) → pushed s r ≡ s
pushed-full s r full = ap (λ (q : Queued). record s { cycles = record s.cycles { queue = q } }) (queued-full s.cycles.queue r r.high full)
