-- What a station keeps of its message cycles can be said.
use Rattle.std.proofs.Common.{◌≡◌, ℕ, ◌+◌, ◌*◌, ◌≤◌, ◌==◌, ◌%◌, List, [], ◌∷◌, ◌++◌, length, Bool, true, false, if◌then◌else◌, refl, arith, Option, Some, None}
use Rattle.std.specs.Option.{option_map, option_or}
use Rattle.std.specs.Prelude.{All, IfSome, nat_lt}
use Rattle.std.proofs.lemmas.List.Elements.{All-drop, All-nil, All-push}
use Rattle.pb_timers.specs.Timers.{Params}
use Rattle.pb_rotation.specs.Rotation.{may_low, may_high}
use Rattle.pb_cycles.specs.declared.services.Priority.{Priority}
use Rattle.pb_cycles.specs.declared.services.Priority.TheVariants.{Low, High}
use Rattle.pb_cycles.specs.Fields.{Fields}
use Rattle.pb_cycles.specs.Messages.{has_bit, address_in, reply_octets}
use Rattle.pb_cycles.specs.Queued.{Queued, put}
use Rattle.pb_cycles.specs.RequestFields.{RequestFields}
use Rattle.pb_cycles.specs.Requests.{is_answered, asked_by, code_of, IsAddressed, is_high, priority_of}
use Rattle.pb_cycles.specs.declared.messages.Message.{Message}
use Rattle.pb_cycles.specs.declared.messages.Reply.{Reply}
use Rattle.pb_cycles.specs.declared.messages.Reply.TheVariants.{Acknowledge}
use Rattle.pb_cycles.specs.declared.services.Asked.{Asked}
use Rattle.pb_cycles.specs.declared.services.Asked.TheVariants.{Send, Status, Unknown}
use Rattle.pb_cycles.specs.declared.services.Service.{Service}
use Rattle.pb_cycles.specs.declared.services.Service.TheVariants.{Sda, Sdn, Srd}
use Rattle.pb_cycles.specs.Counts.{count_at}
use Rattle.pb_telegram.specs.Control.{count_bits}
use Rattle.pb_telegram.specs.declared.control.FrameCount.{FrameCount}
use Rattle.pb_telegram.specs.declared.control.FrameCount.TheVariants.{First, Clear, Set}
use Rattle.pb_cycles.specs.Initiating.{after_request, retried, after_silence, message_outcome, closed_by, after_outcome}
use Rattle.pb_cycles.specs.Responding.{reply_frame, data_reply, service_reply, is_repeat, executed, kept_reply, once, reply_once, counted, after_service, reply_to_service, after_asked, reply_to_asked, after_framed, reply_to_framed}
use Rattle.pb_cycles.specs.Tables.{InitiatorTable, ResponderTable}
use Rattle.pb_cycles.specs.declared.initiators.OpenRequest.{OpenRequest}
use Rattle.pb_cycles.specs.declared.outcomes.Outcome.{Outcome}
use Rattle.pb_cycles.specs.declared.responders.Kept.{Kept}
use Rattle.law_turn.specs.Hearing.{cycle_closed, answer_to, answering, passive, in_ring}
use Rattle.law_turn.specs.Laws.{Fits, IsReply, IsRequest, IsOpenRequest, AreCycles, HasCycles, HasReply}
use Rattle.law_turn.specs.Stations as station
use Rattle.law_turn.specs.Stations.{Station, Cycles, queued, pushed, new_station, started}
use Rattle.law_turn.specs.Turns.{longest_waiting, high_request, low_request, high_taken, low_taken}
use Rattle.law_turn.proofs.Cases.{by_test}
use Rattle.law_turn.proofs.Octets.{frame-reply}

-- ---- the replies of a responder

abbrev IsSaid : Reply → Type 0
IsSaid reply = IsReply (reply_octets reply)

-- the control octets of a responder's replies, with its station type, are no requests'
record HasType (station_type : ℕ) : Type 0 where
  ok : has_bit (16 * station_type + 0) 6 ≡ false
  no_service : has_bit (16 * station_type + 3) 6 ≡ false
  low : has_bit (16 * station_type + 8) 6 ≡ false
  none : has_bit (16 * station_type + 9) 6 ≡ false
  high : has_bit (16 * station_type + 10) 6 ≡ false

passive-type : HasType passive
passive-type = record { ok = refl; no_service = refl; low = refl; none = refl; high = refl }

in_ring-type : HasType in_ring
in_ring-type = record { ok = refl; no_service = refl; low = refl; none = refl; high = refl }

said-frame : (ts station_type : ℕ) (f : Fields) (code : ℕ) (unit : List ℕ) → has_bit (16 * station_type + code) 6 ≡ false → Fits unit
    → IsSaid (reply_frame ts station_type f code unit)
said-frame ts station_type f code unit none fits = frame-reply (record { da = address_in f.sa; sa = ts; fc = 16 * station_type + code; unit = unit }) none fits

said-data : (ts station_type : ℕ) (f : Fields) (priority : Priority) (unit : List ℕ) → HasType station_type → Fits unit → IsSaid (data_reply ts station_type f priority unit)
said-data ts station_type f priority unit type fits =
    by_test IsSaid (length unit == 0) _ _ (λ _. said-frame ts station_type f 9 [] type.none (omega arith))
    (λ _. by_test IsSaid (is_high priority) _ _ (λ _. said-frame ts station_type f 10 unit type.high fits) (λ _. said-frame ts station_type f 8 unit type.low fits))

said-acknowledge : IsSaid Acknowledge
said-acknowledge = record { no_initiator = refl; some = omega arith; fits = omega arith }

said-service : (ts station_type : ℕ) (f : Fields) (service : Service) (priority : Priority) (unit : List ℕ) → HasType station_type → Fits unit
    → IsSaid (service_reply ts station_type f service priority unit)
said-service ts station_type f Sda priority unit type fits =
    by_test IsSaid (has_bit f.da 7) _ Acknowledge (λ _. said-frame ts station_type f 3 [] type.no_service (omega arith)) (λ _. said-acknowledge)
said-service ts station_type f Sdn priority unit type fits = said-acknowledge
said-service ts station_type f Srd priority unit type fits =
    by_test IsSaid (has_bit f.da 7) _ _ (λ _. said-frame ts station_type f 3 [] type.no_service (omega arith)) (λ _. said-data ts station_type f priority unit type fits)

-- ---- a responder's table

record IsResponder (t : ResponderTable) : Type 0 where
  unit : Fits t.reply
  kept : IfSome t.kept (λ k. IsSaid k.reply)

responder-once : (t : ResponderTable) (f : Fields) (reply : Reply) → IsResponder t → IsSaid reply → IsResponder (once t f reply)
responder-once t f reply is said =
    by_test IsResponder (is_repeat t.kept f) t (executed t f reply) (λ _. is) (λ _. record { unit = is.unit; kept = said })

reply-once : (t : ResponderTable) (f : Fields) (reply : Reply) → IsResponder t → IsSaid reply → IfSome (reply_once t f reply) IsSaid
reply-once t f reply is said = by_test (λ (o : Option Reply). IfSome o IsSaid) (is_repeat t.kept f) (kept_reply t.kept) (Some reply) (λ _. by_kept t.kept is.kept) (λ _. said)
  where
    by_kept : (o : Option Kept) → IfSome o (λ k. IsSaid k.reply) → IfSome (kept_reply o) IsSaid
    by_kept None said = tt
    by_kept (Some k) said = said

responder-service : (t : ResponderTable) (ts station_type : ℕ) (f : Fields) (service : Service) (priority : Priority) → HasType station_type → IsResponder t
    → IsResponder (after_service t ts station_type f service priority)
responder-service t ts station_type f Sda priority type is =
    by_test IsResponder (address_in f.da == ts) _ t (λ _. responder-once t f _ is (said-service ts station_type f Sda priority t.reply type is.unit)) (λ _. is)
responder-service t ts station_type f Sdn priority type is =
    by_test IsResponder _ (counted t) t (λ _. record { unit = is.unit; kept = is.kept }) (λ _. is)
responder-service t ts station_type f Srd priority type is =
    by_test IsResponder (address_in f.da == ts) _ t (λ _. responder-once t f _ is (said-service ts station_type f Srd priority t.reply type is.unit)) (λ _. is)

reply-service : (t : ResponderTable) (ts station_type : ℕ) (f : Fields) (service : Service) (priority : Priority) → HasType station_type → IsResponder t
    → IfSome (reply_to_service t ts station_type f service priority) IsSaid
reply-service t ts station_type f Sda priority type is =
    by_test (λ (o : Option Reply). IfSome o IsSaid) (address_in f.da == ts) _ None (λ _. reply-once t f _ is (said-service ts station_type f Sda priority t.reply type is.unit)) (λ _. tt)
reply-service t ts station_type f Sdn priority type is = tt
reply-service t ts station_type f Srd priority type is =
    by_test (λ (o : Option Reply). IfSome o IsSaid) (address_in f.da == ts) _ None (λ _. reply-once t f _ is (said-service ts station_type f Srd priority t.reply type is.unit)) (λ _. tt)

responder-asked : (t : ResponderTable) (ts station_type : ℕ) (f : Fields) (asked : Asked) → HasType station_type → IsResponder t → IsResponder (after_asked t ts station_type f asked)
responder-asked t ts station_type f (Send service priority) type is = responder-service t ts station_type f service priority type is
responder-asked t ts station_type f Status type is = is
responder-asked t ts station_type f Unknown type is = is

reply-asked : (t : ResponderTable) (ts station_type : ℕ) (f : Fields) (asked : Asked) → HasType station_type → IsResponder t
    → IfSome (reply_to_asked t ts station_type f asked) IsSaid
reply-asked t ts station_type f (Send service priority) type is = reply-service t ts station_type f service priority type is
reply-asked t ts station_type f Status type is =
    by_test (λ (o : Option Reply). IfSome o IsSaid) (address_in f.da == ts) _ None (λ _. said-frame ts station_type f 0 [] type.ok (omega arith)) (λ _. tt)
reply-asked t ts station_type f Unknown type is = tt

responder-framed : (t : ResponderTable) (ts station_type : ℕ) (f : Fields) → HasType station_type → IsResponder t → IsResponder (after_framed t ts station_type f)
responder-framed t ts station_type f type is =
    by_test IsResponder (has_bit f.fc 6) _ t (λ _. responder-asked t ts station_type f (asked_by (f.fc % 16)) type is) (λ _. is)

reply-framed : (t : ResponderTable) (ts station_type : ℕ) (f : Fields) → HasType station_type → IsResponder t → IfSome (reply_to_framed t ts station_type f) IsSaid
reply-framed t ts station_type f type is =
    by_test (λ (o : Option Reply). IfSome o IsSaid) (has_bit f.fc 6) _ None (λ _. reply-asked t ts station_type f (asked_by (f.fc % 16)) type is) (λ _. tt)

-- ---- a station that answers

-- a reply that waits for its moment
abbrev pub waiting_reply : Params → ℕ → Reply → station.Reply
waiting_reply p at reply = record { ready = at + p.tsdr; octets = reply_octets reply; joins = false }

reply-answer_to : (p : Params) (s : Station) (at : ℕ) (f : Fields) (station_type : ℕ) → HasType station_type → HasCycles s
    → IfSome (answer_to p s at f station_type) (λ r. IsReply r.octets)
reply-answer_to p s at f station_type type has =
    by_reply (reply_to_framed s.cycles.responder s.address station_type f)
    (reply-framed s.cycles.responder s.address station_type f type (record { unit = has.unit; kept = has.kept }))
  where
    by_reply : (o : Option Reply) → IfSome o IsSaid → IfSome (option_map (waiting_reply p at) o) (λ r. IsReply r.octets)
    by_reply None said = tt
    by_reply (Some r) said = said

cycles-answering : (p : Params) (s : Station) (at : ℕ) (f : Fields) (station_type : ℕ) → HasType station_type → HasCycles s → HasCycles (answering p s at f station_type)
cycles-answering p s at f station_type type has =
    let after = responder-framed s.cycles.responder s.address station_type f type (record { unit = has.unit; kept = has.kept }) in
    record { high = has.high; low = has.low; pending = has.pending; unit = after.unit; kept = after.kept }

-- what holds of an answer and of the reply before it holds of the one that stays
pub or-one-of : {A : Type 0} (P : A → Type 0) (answer before : Option A) → IfSome answer P → IfSome before P → IfSome (option_or answer before) P
or-one-of P None before new old = old
or-one-of P (Some r) before new old = new

-- both, for a passive station and for one in the ring
abbrev pub Sayable : Station → Type 0
Sayable s = HasReply s × HasCycles s

sayable-answering : (p : Params) (s : Station) (at : ℕ) (f : Fields) (station_type : ℕ) → HasType station_type → Sayable s → Sayable (answering p s at f station_type)
sayable-answering p s at f station_type type has = (
  or-one-of (λ (r : station.Reply). IsReply r.octets) (answer_to p s at f station_type) s.reply (reply-answer_to p s at f station_type type has.1) has.0,
  cycles-answering p s at f station_type type has.1,
)

pub sayable-passive : (p : Params) (s : Station) (at : ℕ) (f : Fields) → Sayable s → Sayable (answering p s at f passive)
sayable-passive p s at f has = sayable-answering p s at f passive passive-type has

pub sayable-in_ring : (p : Params) (s : Station) (at : ℕ) (f : Fields) → Sayable s → Sayable (answering p s at f in_ring)
sayable-in_ring p s at f has = sayable-answering p s at f in_ring in_ring-type has

-- ---- an initiator's table

abbrev MayBeOpen : InitiatorTable → Type 0
MayBeOpen t = IfSome t.pending IsOpenRequest

open-closed : (t : InitiatorTable) (message : Option Message) → MayBeOpen t → MayBeOpen (after_outcome t message)
open-closed t None is = by_pending t.pending
  where
    by_pending : (o : Option OpenRequest) → MayBeOpen (after_silence t o)
    by_pending None = is
    by_pending (Some o) = tt
open-closed t (Some m) is = by_outcome (message_outcome t.pending m)
  where
    by_outcome : (o : Option Outcome) → MayBeOpen (closed_by t o)
    by_outcome None = is
    by_outcome (Some outcome) = tt

pub cycles-closed : (c : Cycles) (message : Option Message) → AreCycles c → AreCycles (cycle_closed c message)
cycles-closed c message are =
    record { high = are.high; low = are.low; pending = open-closed c.initiator message are.pending; unit = are.unit; kept = are.kept }

pub open-retried : (o : Option OpenRequest) → IfSome o IsOpenRequest → IfSome (retried o) IsOpenRequest
open-retried None is = tt
open-retried (Some o) is = record { addressed = is.addressed; fits = is.fits; request = is.request }

answered-address : (da : ℕ) (service : Service) → IsAddressed da service → is_answered service ≡ true → da ≤ 126
answered-address da Sda addressed e = addressed
answered-address da Sdn addressed e = absurd (let wrong : false ≡ true = e in cc)
answered-address da Srd addressed e = addressed

-- the control octet of a request has bit 6
code-bit : (service : Service) (priority : Priority) (count : FrameCount) → has_bit (0x40 + (if is_answered service then count_bits count else 0) + code_of service priority) 6 ≡ true
code-bit Sda High First = refl
code-bit Sda High Clear = refl
code-bit Sda High Set = refl
code-bit Sda Low First = refl
code-bit Sda Low Clear = refl
code-bit Sda Low Set = refl
code-bit Sdn High count = refl
code-bit Sdn Low count = refl
code-bit Srd High First = refl
code-bit Srd High Clear = refl
code-bit Srd High Set = refl
code-bit Srd Low First = refl
code-bit Srd Low Clear = refl
code-bit Srd Low Set = refl

pub open-request : (t : InitiatorTable) (ts : ℕ) (r : RequestFields) → IsRequest r → MayBeOpen (after_request t ts r)
open-request t ts r is =
    by_test MayBeOpen (is_answered r.service) _ _ (λ e. record { addressed = answered-address r.da r.service is.addressed e; fits = is.fits; request = code-bit r.service (priority_of r.high) (count_at t.counts r.da) }) (λ _. tt)

-- ---- the requests that wait

longest-request : (xs : List RequestFields) → All IsRequest xs → IfSome (longest_waiting xs) IsRequest
longest-request [] all = tt
longest-request (r ∷ rs) all = all 0 r (omega arith)

pub high-request : (s : Station) (now : ℕ) → HasCycles s → IfSome (high_request s now) IsRequest
high-request s now has =
    by_test (λ (o : Option RequestFields). IfSome o IsRequest) (may_high s.rotation now) (longest_waiting s.cycles.queue.high) None
    (λ _. longest-request s.cycles.queue.high has.high) (λ _. tt)

pub low-request : (s : Station) (now : ℕ) → HasCycles s → IfSome (low_request s now) IsRequest
low-request s now has =
    by_test (λ (o : Option RequestFields). IfSome o IsRequest) (may_low s.rotation now) (longest_waiting s.cycles.queue.low) None
    (λ _. longest-request s.cycles.queue.low has.low) (λ _. tt)

pub cycles-high_taken : (s : Station) → HasCycles s → HasCycles (high_taken s)
cycles-high_taken s has =
    record { high = All-drop IsRequest 1 s.cycles.queue.high has.high; low = has.low; pending = has.pending; unit = has.unit; kept = has.kept }

pub cycles-low_taken : (s : Station) → HasCycles s → HasCycles (low_taken s)
cycles-low_taken s has =
    record { high = has.high; low = All-drop IsRequest 1 s.cycles.queue.low has.low; pending = has.pending; unit = has.unit; kept = has.kept }

all-put : (xs : List RequestFields) (r : RequestFields) → All IsRequest xs → IsRequest r → All IsRequest (put xs r)
all-put xs r all is = by_test (All IsRequest) (nat_lt (length xs) 16) (xs ++ r ∷ []) xs (λ _. All-push IsRequest xs r all is) (λ _. all)

-- what a station keeps when another request waits, and as it starts

record AreQueued (q : Queued) : Type 0 where
  high : All IsRequest q.high
  low : All IsRequest q.low

queued-more : (q : Queued) (r : RequestFields) → AreQueued q → IsRequest r → AreQueued (queued q r)
queued-more q r are is =
    by_test AreQueued r.high _ _
    (λ _. record { high = all-put q.high r are.high is; low = are.low }) (λ _. record { high = are.high; low = all-put q.low r are.low is })

pub cycles-pushed : (s : Station) (r : RequestFields) → HasCycles s → IsRequest r → HasCycles (pushed s r)
cycles-pushed s r has is =
    let more = queued-more s.cycles.queue r (record { high = has.high; low = has.low }) is in
    record { high = more.high; low = more.low; pending = has.pending; unit = has.unit; kept = has.kept }

pub cycles-new : (p : Params) (address : ℕ) (reply : List ℕ) → Fits reply → HasCycles (new_station p address reply)
cycles-new p address reply fits = record { high = All-nil IsRequest; low = All-nil IsRequest; pending = tt; unit = fits; kept = tt }

pub cycles-started : (p : Params) (s : Station) (master : Bool) (now : ℕ) → HasCycles s → HasCycles (started p s master now)
cycles-started p s master now has = record { high = All-nil IsRequest; low = All-nil IsRequest; pending = tt; unit = has.unit; kept = tt }
