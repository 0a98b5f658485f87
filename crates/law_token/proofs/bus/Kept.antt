-- What a station keeps to say spells telegrams, where its address is a station's.
use Rattle.std.proofs.Common.{ℕ, ◌+◌, ◌*◌, ◌==◌, ◌%◌, List, [], ◌∷◌, length, Bool, true, false, refl, arith, Option, Some, None, ◌<◌}
use Rattle.std.specs.Option.{option_map}
use Rattle.std.specs.Prelude.{IfSome, nat_lt, is_some, nat_le, max}
use Rattle.pb_timers.specs.Timers.{Params}
use Rattle.pb_cycles.specs.declared.services.Priority.{Priority}
use Rattle.pb_cycles.specs.Fields.{Fields}
use Rattle.pb_cycles.specs.Messages.{has_bit, address_in}
use Rattle.pb_cycles.specs.RequestFields.{RequestFields}
use Rattle.pb_cycles.specs.Requests.{is_answered, asked_by, is_high, priority_of}
use Rattle.pb_cycles.specs.declared.messages.Message.{Message}
use Rattle.pb_cycles.specs.declared.messages.Reply.{Reply}
use Rattle.pb_cycles.specs.declared.messages.Reply.TheVariants.{Acknowledge}
use Rattle.pb_cycles.specs.declared.services.Asked.{Asked}
use Rattle.pb_cycles.specs.declared.services.Asked.TheVariants.{Send, Status, Unknown}
use Rattle.pb_cycles.specs.declared.services.Service.{Service}
use Rattle.pb_cycles.specs.declared.services.Service.TheVariants.{Sda, Sdn, Srd}
use Rattle.pb_cycles.specs.Counts.{count_at}
use Rattle.pb_cycles.specs.Initiating.{after_request, retried, after_silence, message_outcome, closed_by, after_outcome, retry_of, outcome_of}
use Rattle.pb_cycles.specs.Responding.{reply_frame, data_reply, service_reply, is_repeat, executed, kept_reply, once, reply_once, counted, after_service, reply_to_service, after_asked, reply_to_asked, after_framed, reply_to_framed}
use Rattle.pb_cycles.specs.Tables.{InitiatorTable, ResponderTable}
use Rattle.pb_cycles.specs.declared.initiators.OpenRequest.{OpenRequest}
use Rattle.pb_cycles.specs.declared.outcomes.Outcome.{Outcome}
use Rattle.pb_cycles.specs.declared.responders.Kept.{Kept}
use Rattle.law_turn.specs.Hearing.{cycle_closed, answer_to, answering, passive, in_ring, not_answered, passive_hears, data_told, awaiting_data_hears, phase_timed_out, timed_out, after_timer, tries_limit, asks_status, status_answer, listening_answer, listening_hears, taking, is_taken_from, skips_limit, token_in_idle, idle_hears, holder_hears, status_told, awaiting_status_hears, with_token, lost, phase_ended, heard, after_mark, not_ready, ready_for_ring}
use Rattle.law_turn.specs.Stations.{Station, Cycles, queued, pushed, new_station, started, timer_of, speaks_at, next_station, previous_station}
use Rattle.law_turn.specs.Turns.{high_request, low_request, high_taken, low_taken, after_marks, settled, looks_at_gap, says_no_request, says_request, says_low, says_high, says_again, says_look, says_token, says_reply, says_ready, replying, joining, phase_says, speech, turn_of, saying, received_own, token_octets}
use Rattle.pb_ring.specs.Gap.{next_asked, last_asked, round_after}
use Rattle.pb_ring.specs.Las.{place_of, skips_of}
use Rattle.pb_cycles.specs.Outcomes.{status_reply}
use Rattle.law_turn.specs.Arrivals.{Arrival, Token, Framed, Acknowledgement, NoTelegram, arrival_of}
use Rattle.law_turn.specs.Marks.{Mark, Begin, End, moment_of}
use Rattle.law_turn.specs.Phases.{Phase, Offline, PassiveIdle, Listening, Idle, Claim, Use, AwaitData, AwaitStatus, Pass, Checking, answers_requests, is_offline}
use Rattle.law_turn.proofs.Paths.{at_end}
use Rattle.law_turn.specs.Laws.{Fits}
use Rattle.law_turn.proofs.Keeping.{waiting_reply, or-one-of}
use Rattle.law_model.proofs.Cases.{by_test}
use Rattle.law_token.specs.Stations.{IsGood, IsSaid, IsOpen, CyclesOk, Spells}
use Rattle.law_token.proofs.bus.Spelling.{frame_spelled}
use Rattle.law_token.proofs.turn.SaidOctets.{code_small, low_address}
use Rattle.law_turn.specs.Stations as station
use Rattle.pb_ring.specs.Las as las
use Rattle.pb_cycles.specs.declared.messages.Message.TheVariants as message

-- ---- the replies of a responder

-- the control octets of a responder's replies, with its station type, and its address
record HasType (ts station_type : ℕ) : Type 0 where
  here : ts < 127
  ok : 16 * station_type + 0 < 128
  no_service : 16 * station_type + 3 < 128
  low : 16 * station_type + 8 < 128
  none : 16 * station_type + 9 < 128
  high : 16 * station_type + 10 < 128

passive-type : (ts : ℕ) → ts < 127 → HasType ts passive
passive-type ts here = record { here = here; ok = omega arith; no_service = omega arith; low = omega arith; none = omega arith; high = omega arith }

in_ring-type : (ts : ℕ) → ts < 127 → HasType ts in_ring
in_ring-type ts here = record { here = here; ok = omega arith; no_service = omega arith; low = omega arith; none = omega arith; high = omega arith }

said-frame : (ts station_type : ℕ) (f : Fields) (code : ℕ) (unit : List ℕ) → ts < 127 → 16 * station_type + code < 128 → Fits unit
    → IsSaid (reply_frame ts station_type f code unit)
said-frame ts station_type f code unit here none fits = frame_spelled (record { da = address_in f.sa; sa = ts; fc = 16 * station_type + code; unit = unit }) (low_address ts here) none fits

said-data : (ts station_type : ℕ) (f : Fields) (priority : Priority) (unit : List ℕ) → HasType ts station_type → Fits unit → IsSaid (data_reply ts station_type f priority unit)
said-data ts station_type f priority unit type fits =
    by_test IsSaid (length unit == 0) _ _ (λ _. said-frame ts station_type f 9 [] type.here type.none (omega arith))
    (λ _. by_test IsSaid (is_high priority) _ _ (λ _. said-frame ts station_type f 10 unit type.here type.high fits) (λ _. said-frame ts station_type f 8 unit type.here type.low fits))

said-acknowledge : IsSaid Acknowledge
said-acknowledge = refl

said-service : (ts station_type : ℕ) (f : Fields) (service : Service) (priority : Priority) (unit : List ℕ) → HasType ts station_type → Fits unit
    → IsSaid (service_reply ts station_type f service priority unit)
said-service ts station_type f Sda priority unit type fits =
    by_test IsSaid (has_bit f.da 7) _ Acknowledge (λ _. said-frame ts station_type f 3 [] type.here type.no_service (omega arith)) (λ _. said-acknowledge)
said-service ts station_type f Sdn priority unit type fits = said-acknowledge
said-service ts station_type f Srd priority unit type fits =
    by_test IsSaid (has_bit f.da 7) _ _ (λ _. said-frame ts station_type f 3 [] type.here type.no_service (omega arith)) (λ _. said-data ts station_type f priority unit type fits)

-- ---- a responder's table

record IsResponder (t : ResponderTable) : Type 0 where
  unit : Fits t.reply
  kept : IfSome t.kept (λ k. IsSaid k.reply)

responder-once : (t : ResponderTable) (f : Fields) (reply : Reply) → IsResponder t → IsSaid reply → IsResponder (once t f reply)
responder-once t f reply is said =
    by_test IsResponder (is_repeat t.kept f) t (executed t f reply) (λ _. is) (λ _. record { unit = is.unit; kept = said })

reply-once : (t : ResponderTable) (f : Fields) (reply : Reply) → IsResponder t → IsSaid reply → IfSome (reply_once t f reply) IsSaid
reply-once t f reply is said = by_test (λ (o : Option Reply). IfSome o IsSaid) (is_repeat t.kept f) (kept_reply t.kept) (Some reply) (λ _. by_kept t.kept is.kept) (λ _. said)
  where
    by_kept : (o : Option Kept) → IfSome o (λ k. IsSaid k.reply) → IfSome (kept_reply o) IsSaid
    by_kept None said = tt
    by_kept (Some k) said = said

responder-service : (t : ResponderTable) (ts station_type : ℕ) (f : Fields) (service : Service) (priority : Priority) → HasType ts station_type → IsResponder t
    → IsResponder (after_service t ts station_type f service priority)
responder-service t ts station_type f Sda priority type is =
    by_test IsResponder (address_in f.da == ts) _ t (λ _. responder-once t f _ is (said-service ts station_type f Sda priority t.reply type is.unit)) (λ _. is)
responder-service t ts station_type f Sdn priority type is =
    by_test IsResponder _ (counted t) t (λ _. record { unit = is.unit; kept = is.kept }) (λ _. is)
responder-service t ts station_type f Srd priority type is =
    by_test IsResponder (address_in f.da == ts) _ t (λ _. responder-once t f _ is (said-service ts station_type f Srd priority t.reply type is.unit)) (λ _. is)

reply-service : (t : ResponderTable) (ts station_type : ℕ) (f : Fields) (service : Service) (priority : Priority) → HasType ts station_type → IsResponder t
    → IfSome (reply_to_service t ts station_type f service priority) IsSaid
reply-service t ts station_type f Sda priority type is =
    by_test (λ (o : Option Reply). IfSome o IsSaid) (address_in f.da == ts) _ None (λ _. reply-once t f _ is (said-service ts station_type f Sda priority t.reply type is.unit)) (λ _. tt)
reply-service t ts station_type f Sdn priority type is = tt
reply-service t ts station_type f Srd priority type is =
    by_test (λ (o : Option Reply). IfSome o IsSaid) (address_in f.da == ts) _ None (λ _. reply-once t f _ is (said-service ts station_type f Srd priority t.reply type is.unit)) (λ _. tt)

responder-asked : (t : ResponderTable) (ts station_type : ℕ) (f : Fields) (asked : Asked) → HasType ts station_type → IsResponder t → IsResponder (after_asked t ts station_type f asked)
responder-asked t ts station_type f (Send service priority) type is = responder-service t ts station_type f service priority type is
responder-asked t ts station_type f Status type is = is
responder-asked t ts station_type f Unknown type is = is

reply-asked : (t : ResponderTable) (ts station_type : ℕ) (f : Fields) (asked : Asked) → HasType ts station_type → IsResponder t
    → IfSome (reply_to_asked t ts station_type f asked) IsSaid
reply-asked t ts station_type f (Send service priority) type is = reply-service t ts station_type f service priority type is
reply-asked t ts station_type f Status type is =
    by_test (λ (o : Option Reply). IfSome o IsSaid) (address_in f.da == ts) _ None (λ _. said-frame ts station_type f 0 [] type.here type.ok (omega arith)) (λ _. tt)
reply-asked t ts station_type f Unknown type is = tt

responder-framed : (t : ResponderTable) (ts station_type : ℕ) (f : Fields) → HasType ts station_type → IsResponder t → IsResponder (after_framed t ts station_type f)
responder-framed t ts station_type f type is =
    by_test IsResponder (has_bit f.fc 6) _ t (λ _. responder-asked t ts station_type f (asked_by (f.fc % 16)) type is) (λ _. is)

reply-framed : (t : ResponderTable) (ts station_type : ℕ) (f : Fields) → HasType ts station_type → IsResponder t → IfSome (reply_to_framed t ts station_type f) IsSaid
reply-framed t ts station_type f type is =
    by_test (λ (o : Option Reply). IfSome o IsSaid) (has_bit f.fc 6) _ None (λ _. reply-asked t ts station_type f (asked_by (f.fc % 16)) type is) (λ _. tt)

-- ---- a station that answers

reply-answer_to : (p : Params) (s : Station) (at : ℕ) (f : Fields) (station_type : ℕ) → HasType s.address station_type → CyclesOk s.address s.cycles
    → IfSome (answer_to p s at f station_type) (λ r. IsGood r.octets)
reply-answer_to p s at f station_type type has =
    by_reply (reply_to_framed s.cycles.responder s.address station_type f)
    (reply-framed s.cycles.responder s.address station_type f type (record { unit = has.unit; kept = has.kept }))
  where
    by_reply : (o : Option Reply) → IfSome o IsSaid → IfSome (option_map (waiting_reply p at) o) (λ r. IsGood r.octets)
    by_reply None said = tt
    by_reply (Some r) said = said

cycles-answering : (p : Params) (s : Station) (at : ℕ) (f : Fields) (station_type : ℕ) → HasType s.address station_type → CyclesOk s.address s.cycles → CyclesOk s.address (answering p s at f station_type).cycles
cycles-answering p s at f station_type type has =
    let after = responder-framed s.cycles.responder s.address station_type f type (record { unit = has.unit; kept = has.kept }) in
    record { here = has.here; pending = has.pending; unit = after.unit; kept = after.kept }

sayable-answering : (p : Params) (s : Station) (at : ℕ) (f : Fields) (station_type : ℕ) → HasType s.address station_type → Spells s → Spells (answering p s at f station_type)
sayable-answering p s at f station_type type has = (
  or-one-of (λ (r : station.Reply). IsGood r.octets) (answer_to p s at f station_type) s.reply (reply-answer_to p s at f station_type type has.1) has.0,
  cycles-answering p s at f station_type type has.1,
)

pub sayable-passive : (p : Params) (s : Station) (at : ℕ) (f : Fields) → Spells s → Spells (answering p s at f passive)
sayable-passive p s at f has = sayable-answering p s at f passive (passive-type s.address has.1.here) has

pub sayable-in_ring : (p : Params) (s : Station) (at : ℕ) (f : Fields) → Spells s → Spells (answering p s at f in_ring)
sayable-in_ring p s at f has = sayable-answering p s at f in_ring (in_ring-type s.address has.1.here) has

-- ---- an initiator's table

abbrev MayBeOpen : InitiatorTable → Type 0
MayBeOpen t = IfSome t.pending IsOpen

open-closed : (t : InitiatorTable) (message : Option Message) → MayBeOpen t → MayBeOpen (after_outcome t message)
open-closed t None is = by_pending t.pending
  where
    by_pending : (o : Option OpenRequest) → MayBeOpen (after_silence t o)
    by_pending None = is
    by_pending (Some o) = tt
open-closed t (Some m) is = by_outcome (message_outcome t.pending m)
  where
    by_outcome : (o : Option Outcome) → MayBeOpen (closed_by t o)
    by_outcome None = is
    by_outcome (Some outcome) = tt

cycles-closed : (a : ℕ) (c : Cycles) (message : Option Message) → CyclesOk a c → CyclesOk a (cycle_closed c message)
cycles-closed a c message are = record { here = are.here; pending = open-closed c.initiator message are.pending; unit = are.unit; kept = are.kept }

open-retried : (o : Option OpenRequest) → IfSome o IsOpen → IfSome (retried o) IsOpen
open-retried None is = tt
open-retried (Some o) is = is

open-request : (t : InitiatorTable) (ts : ℕ) (r : RequestFields) → ts < 127 → MayBeOpen (after_request t ts r)
open-request t ts r here = by_test MayBeOpen (is_answered r.service) _ _ (λ e. (low_address ts here, code_small r.service (priority_of r.high) (count_at t.counts r.da))) (λ _. tt)

abbrev AreReply : Option station.Reply → Type 0
AreReply o = IfSome o (λ r. IsGood r.octets)

-- ---- replies

reply-status_answer : (p : Params) (s : Station) (at : ℕ) (f : Fields) (joins : Bool) → s.address < 127
    → AreReply (status_answer p s at f not_ready joins) × AreReply (status_answer p s at f ready_for_ring joins)
reply-status_answer p s at f joins here = (
  by_test AreReply (asks_status s.address f) _ None (λ _. said-frame s.address not_ready f 0 [] here (omega arith) (omega arith)) (λ _. tt),
  by_test AreReply (asks_status s.address f) _ None (λ _. said-frame s.address ready_for_ring f 0 [] here (omega arith) (omega arith)) (λ _. tt),
)

reply-listening_answer : (p : Params) (s : Station) (at : ℕ) (f : Fields) → s.address < 127 → AreReply (listening_answer p s at f)
reply-listening_answer p s at f here =
    by_test AreReply (las.is_complete s.las.stage) _ _ (λ _. (reply-status_answer p s at f true here).1) (λ _. (reply-status_answer p s at f false here).0)

-- ---- timers and marks

reply-not_answered : (s : Station) (asked slot : Bool) (ready : ℕ) → Spells s → Spells (not_answered s asked slot ready)
reply-not_answered s asked slot ready has =
    by_test Spells (is_some (retry_of s.cycles.initiator.pending)) _ _ (λ _. has) (λ _. (has.0, cycles-closed s.address s.cycles None has.1))

reply-timed_out : (s : Station) (ph : Phase) (t : ℕ) → Spells s → Spells (phase_timed_out (record s { phase = ph }) ph t)
reply-timed_out s Offline t has = has
reply-timed_out s PassiveIdle t has = has
reply-timed_out s (Listening doubled) t has = (tt, has.1)
reply-timed_out s (Idle refused) t has = (tt, has.1)
reply-timed_out s (Claim sent ready) t has = has
reply-timed_out s (Use asked ready) t has = has
reply-timed_out s (AwaitData asked retry slot) t has = reply-not_answered (record s { phase = AwaitData asked retry slot }) asked false t has
reply-timed_out s (AwaitStatus of slot) t has = has
reply-timed_out s (Pass tries ready) t has = has
reply-timed_out s (Checking tries) t has =
    by_test Spells (nat_le tries_limit tries) _ _ (λ _. has) (λ _. has)

pub reply-after_timer : (p : Params) (limit : ℕ) (s : Station) → Spells s → Spells (after_timer p limit s)
reply-after_timer p limit s has = by_timer (timer_of p s)
  where
    by_timer : (o : Option ℕ) → Spells (timed_out s o limit)
    by_timer None = has
    by_timer (Some t) = by_test Spells (nat_lt t limit) (phase_timed_out s s.phase t) s (λ _. reply-timed_out s s.phase t has) (λ _. has)

reply-token_in_idle : (p : Params) (s : Station) (refused : Option ℕ) (at da sa : ℕ) → Spells s → Spells (token_in_idle p s refused at da sa)
reply-token_in_idle p s refused at da sa has =
    let x = with_token s da sa in
    by_test Spells (da == s.address) _ _
    (λ _. by_test Spells (is_taken_from refused (previous_station s) sa) (taking p x at) _ (λ _. has) (λ _. has))
    (λ _. by_test Spells (nat_le skips_limit (skips_of (place_of x.las.stage))) _ x (λ _. (tt, has.1)) (λ _. has))

reply-idle_hears : (p : Params) (s : Station) (refused : Option ℕ) (at : ℕ) (a : Arrival) → Spells s → Spells (idle_hears p s refused at a)
reply-idle_hears p s refused at (Token da sa) has = reply-token_in_idle p s refused at da sa has
reply-idle_hears p s refused at (Framed f) has = sayable-in_ring p s at f has
reply-idle_hears p s refused at Acknowledgement has = has
reply-idle_hears p s refused at NoTelegram has = has

reply-listening_hears : (p : Params) (s : Station) (doubled : Bool) (at : ℕ) (a : Arrival) → Spells s → Spells (listening_hears p s doubled at a)
reply-listening_hears p s doubled at (Token da sa) has = has
reply-listening_hears p s doubled at (Framed f) has =
    (or-one-of (λ (r : station.Reply). IsGood r.octets) (listening_answer p s at f) s.reply (reply-listening_answer p s at f has.1.here) has.0, has.1)
reply-listening_hears p s doubled at Acknowledgement has = has
reply-listening_hears p s doubled at NoTelegram has = has

reply-holder_hears : (s : Station) (a : Arrival) → Spells s → Spells (holder_hears s a)
reply-holder_hears s (Token da sa) has = has
reply-holder_hears s (Framed f) has = has
reply-holder_hears s Acknowledgement has = has
reply-holder_hears s NoTelegram has = has

reply-status_told : (p : Params) (s : Station) (of at : ℕ) (fc : Option ℕ) → Spells s → Spells (status_told p s of at fc)
reply-status_told p s of at None has = has
reply-status_told p s of at (Some fc) has = has

reply-awaiting : (p : Params) (s : Station) (of at : ℕ) (a : Arrival) → Spells s → Spells (awaiting_status_hears p s of at a)
reply-awaiting p s of at (Token da sa) has = has
reply-awaiting p s of at (Framed f) has =
    by_test Spells (has_bit f.fc 6) (lost s) _ (λ _. has) (λ _. reply-status_told p s of at (status_reply s.address of (message.Framed f)) has)
reply-awaiting p s of at Acknowledgement has = has
reply-awaiting p s of at NoTelegram has = has

reply-data_told : (p : Params) (s : Station) (asked slot : Bool) (at : ℕ) (m : Message) (outcome : Option Outcome) → Spells s → Spells (data_told p s asked slot at m outcome)
reply-data_told p s asked slot at m (Some outcome) has = (has.0, cycles-closed s.address s.cycles (Some m) has.1)
reply-data_told p s asked slot at m None has = reply-not_answered s asked slot (max at s.own.end + p.tid1) has

reply-awaiting_data : (p : Params) (s : Station) (asked slot : Bool) (at : ℕ) (a : Arrival) → Spells s → Spells (awaiting_data_hears p s asked slot at a)
reply-awaiting_data p s asked slot at (Token da sa) has = has
reply-awaiting_data p s asked slot at (Framed f) has =
    by_test Spells (has_bit f.fc 6) (lost s) _ (λ _. has)
    (λ _. reply-data_told p s asked slot at (message.Framed f) (outcome_of s.cycles.initiator (Some (message.Framed f))) has)
reply-awaiting_data p s asked slot at Acknowledgement has =
    reply-data_told p s asked slot at message.Acknowledgement (outcome_of s.cycles.initiator (Some message.Acknowledgement)) has
reply-awaiting_data p s asked slot at NoTelegram has = reply-not_answered s asked slot (max at s.own.end + p.tid1) has

reply-passive : (p : Params) (s : Station) (at : ℕ) (a : Arrival) → Spells s → Spells (passive_hears p s at a)
reply-passive p s at (Token da sa) has = has
reply-passive p s at (Framed f) has = sayable-passive p s at f has
reply-passive p s at Acknowledgement has = has
reply-passive p s at NoTelegram has = has

reply-ended : (p : Params) (s : Station) (ph : Phase) (at : ℕ) (a : Arrival) → Spells s → Spells (phase_ended p s ph at a)
reply-ended p s Offline at a has = has
reply-ended p s PassiveIdle at a has = reply-passive p s at a has
reply-ended p s (Listening doubled) at a has = reply-listening_hears p s doubled at a has
reply-ended p s (Idle refused) at a has = reply-idle_hears p s refused at a has
reply-ended p s (Claim sent ready) at a has = reply-holder_hears s a has
reply-ended p s (Use asked ready) at a has = reply-holder_hears s a has
reply-ended p s (AwaitData asked retry slot) at a has = reply-awaiting_data p s asked slot at a has
reply-ended p s (AwaitStatus of slot) at a has = reply-awaiting p s of at a has
reply-ended p s (Pass tries ready) at a has = reply-holder_hears s a has
reply-ended p s (Checking tries) at a has = reply-holder_hears s a has

reply-heard : (p : Params) (s : Station) (m : Mark) → Spells s → Spells (heard p s m)
reply-heard p s (Begin at seen) has =
    (by_test (λ (o : Option station.Reply). IfSome o (λ r. IsGood r.octets)) (answers_requests s.phase) None s.reply (λ _. tt) (λ _. has.0), has.1)
reply-heard p s (End at seen chars) has = reply-ended p (at_end s at) s.phase at (arrival_of chars) has

pub reply-after_mark : (p : Params) (s : Station) (m : Mark) → Spells s → Spells (after_mark p s m)
reply-after_mark p s m has = by_test Spells (is_offline s.phase) s (heard p s m) (λ _. has) (λ _. reply-heard p s m has)

pub reply-after_marks : (p : Params) (s : Station) (marks : List Mark) → Spells s → Spells (after_marks p s marks)
reply-after_marks p s [] has = has
reply-after_marks p s (m ∷ marks) has =
    let x = after_timer p (moment_of m) s in
    reply-after_marks p (after_mark p x m) marks (reply-after_mark p x m (reply-after_timer p (moment_of m) s has))

pub reply-settled : (p : Params) (s : Station) (marks : List Mark) (now : ℕ) → Spells s → Spells (settled p s marks now)
reply-settled p s marks now has = reply-after_timer p (now + 1) (after_marks p s marks) (reply-after_marks p s marks has)

-- ---- speech

abbrev After : Station × Option (List ℕ) → Type 0
After turn = Spells turn.0

says-token : (p : Params) (s : Station) (tries now : ℕ) → Spells s → After (says_token p s tries now)
says-token p s tries now has = let x = saying s now (token_octets (next_station s) s.address) in by_test Spells (next_station s == s.address) (received_own p x) _ (λ _. has) (λ _. has)

says-look : (p : Params) (s : Station) (next : Option ℕ) (now : ℕ) → Spells s → After (says_look p s next now)
says-look p s None now has = says-token p (record s { gap = round_after None now }) 0 now has
says-look p s (Some a) now has = has

says-no_request : (p : Params) (s : Station) (asked : Bool) (now : ℕ) → Spells s → After (says_no_request p s asked now)
says-no_request p s asked now has =
    by_test After (looks_at_gap p s asked now) _ _ (λ _. says-look p s (next_asked s.address (next_station s) p.hsa (last_asked s.gap)) now has) (λ _. says-token p s 0 now has)

says-request : (p : Params) (s : Station) (asked : Bool) (r : RequestFields) (now : ℕ) → Spells s → After (says_request p s asked r now)
says-request p s asked r now has =
    let cycles : CyclesOk s.address (record s.cycles { initiator = after_request s.cycles.initiator s.address r }) =
    record { here = has.1.here; pending = open-request s.cycles.initiator s.address r has.1.here; unit = has.1.unit; kept = has.1.kept } in
    by_test Spells (is_answered r.service) _ _ (λ _. (has.0, cycles)) (λ _. (has.0, cycles))

same-low_taken : (s : Station) → Spells s → Spells (low_taken s)
same-low_taken s has = (has.0, record { here = has.1.here; pending = has.1.pending; unit = has.1.unit; kept = has.1.kept })

same-high_taken : (s : Station) → Spells s → Spells (high_taken s)
same-high_taken s has = (has.0, record { here = has.1.here; pending = has.1.pending; unit = has.1.unit; kept = has.1.kept })

says-low : (p : Params) (s : Station) (asked : Bool) (r : Option RequestFields) (now : ℕ) → Spells s → After (says_low p s asked r now)
says-low p s asked None now has = says-no_request p s asked now has
says-low p s asked (Some r) now has = says-request p (low_taken s) asked r now (same-low_taken s has)

says-high : (p : Params) (s : Station) (asked : Bool) (r : Option RequestFields) (now : ℕ) → Spells s → After (says_high p s asked r now)
says-high p s asked None now has = says-low p s asked (low_request s now) now has
says-high p s asked (Some r) now has = says-request p (high_taken s) asked r now (same-high_taken s has)

says-again : (s : Station) (asked : Bool) (o : Option OpenRequest) (now : ℕ) → Spells s → After (says_again s asked (retry_of o) now)
says-again s asked None now has = has
says-again s asked (Some o) now has =
    by_test (λ (f : Option Fields). After (says_again s asked f now)) (o.left == 0) None (Some o.sent) (λ _. has)
    (λ _. (has.0, record { here = has.1.here; pending = open-retried s.cycles.initiator.pending has.1.pending; unit = has.1.unit; kept = has.1.kept }))

says-reply : (s : Station) (o : Option station.Reply) (now : ℕ) → Spells s → After (says_reply s o now)
says-reply s None now has = has
says-reply s (Some r) now has = (tt, has.1)

says-ready : (s : Station) (o : Option station.Reply) (now : ℕ) → Spells s → After (says_ready s o now)
says-ready s None now has = has
says-ready s (Some r) now has = let x = replying s now r in by_test Spells r.joins (joining x) x (λ _. (tt, has.1)) (λ _. (tt, has.1))

says-phase : (p : Params) (s : Station) (ph : Phase) (now : ℕ) → Spells s → After (phase_says p s ph now)
says-phase p s Offline now has = has
says-phase p s PassiveIdle now has = says-reply s s.reply now has
says-phase p s (Listening doubled) now has = says-ready s s.reply now has
says-phase p s (Idle refused) now has = says-reply s s.reply now has
says-phase p s (Claim sent ready) now has = let x = saying s now (token_octets s.address s.address) in by_test Spells (sent == 0) _ (received_own p x) (λ _. has) (λ _. has)
says-phase p s (Use asked ready) now has = says-high p s asked (high_request s now) now has
says-phase p s (AwaitData asked retry slot) now has = says-again s asked s.cycles.initiator.pending now has
says-phase p s (AwaitStatus of slot) now has = has
says-phase p s (Pass tries ready) now has = says-token p s tries now has
says-phase p s (Checking tries) now has = has

says-speech : (p : Params) (s : Station) (o : Option ℕ) (now : ℕ) → Spells s → After (speech p s o now)
says-speech p s None now has = has
says-speech p s (Some moment) now has = by_test After (nat_le moment now) (phase_says p s s.phase now) (s, None) (λ _. says-phase p s s.phase now has) (λ _. has)

pub reply-turn_of : (p : Params) (s : Station) (marks : List Mark) (now : ℕ) → Spells s → Spells (turn_of p s marks now).0
reply-turn_of p s marks now has = let x = settled p s marks now in says-speech p x (speaks_at x) now (reply-settled p s marks now has)
