-- A ring that all its stations agree on, and what holds of it while nothing disturbs it: stations take turns, time
-- passes, and requests are to wait.
use Rattle.std.specs.Prelude.{◌≡◌, ◌⊎◌, ℕ, ◌+◌, ◌%◌, ◌<◌, ◌≤◌, Bool, true, false, ◌&&◌, List, [], length, map, slice_get, Option, Some, None, IfSome}
use Rattle.pb_telegram.specs.declared.chars.RxChar.TheVariants.{Good}
use Rattle.pb_timers.specs.Timers.{Params, bits}
use Rattle.pb_ring.specs.AddressSets.{IsAscending, is_member, next_address}
use Rattle.pb_ring.specs.Las.{LasTable}
use Rattle.pb_ring.specs.declared.stages.Place.{Place}
use Rattle.pb_ring.specs.declared.stages.Stage.TheVariants.{Complete}
use Rattle.pb_cycles.specs.Messages.{has_bit, address_in}
use Rattle.pb_cycles.specs.Requests.{is_answered, asked_by}
use Rattle.pb_cycles.specs.declared.services.Asked.{Asked}
use Rattle.pb_cycles.specs.declared.services.Asked.TheVariants.{Send, Status, Unknown}
use Rattle.law_turn.specs.Arrivals.{Arrival, Token, Framed, Acknowledgement, NoTelegram, arrival_of}
use Rattle.law_turn.specs.Phases.{Phase, Offline, PassiveIdle, Listening, Idle, Claim, Use, AwaitData, AwaitStatus, Pass, Checking, may_initiate}
use Rattle.law_turn.specs.Stations.{Reply}
use Rattle.law_turn.specs.Hearing.{is_status, tells_ready}
use Rattle.law_model.specs.Trace.{Record, Entry, Sent, Noise}
use Rattle.law_model.specs.Medium.{Tap}
use Rattle.law_model.specs.World.{World, Pass}
use Rattle.law_runs.specs.Initiators.{telegram_of, is_initiator, offered_by, last_initiator}
use Rattle.law_token.specs.Lists.{Each}
use Rattle.law_token.specs.Entries.{Origin}
use Rattle.law_token.specs.Views.{view}
use Rattle.law_live.specs.Flow.{BeganBefore}

-- ---- telegrams

-- the service that a request asks for is answered
abbrev pub is_answered_by : Asked → Bool
is_answered_by (Send service priority) = is_answered service
is_answered_by Status = true
is_answered_by Unknown = false

-- a request that is answered
abbrev pub wants_reply : Arrival → Bool
wants_reply (Token da sa) = false
wants_reply (Framed f) = has_bit f.fc 6 && is_answered_by (asked_by (f.fc % 16))
wants_reply Acknowledgement = false
wants_reply NoTelegram = false

-- a request for the status of a station
abbrev pub is_question : Arrival → Bool
is_question (Token da sa) = false
is_question (Framed f) = has_bit f.fc 6 && is_status (asked_by (f.fc % 16))
is_question Acknowledgement = false
is_question NoTelegram = false

-- the station to which a telegram with a control octet goes
abbrev pub goes_to : Arrival → Option ℕ
goes_to (Token da sa) = None
goes_to (Framed f) = Some (address_in f.da)
goes_to Acknowledgement = None
goes_to NoTelegram = None

-- what octets bring whose characters are all good
abbrev pub brought_by : List ℕ → Arrival
brought_by octets = arrival_of (map Good octets)

-- a telegram that does not tell that its sender is ready for the ring
abbrev pub TellsNotReady : Arrival → Type 0
TellsNotReady (Token da sa) = Unit {0}
TellsNotReady (Framed f) = tells_ready f.fc ≡ false
TellsNotReady Acknowledgement = Unit {0}
TellsNotReady NoTelegram = Unit {0}

-- ---- the last initiator telegram

-- by whom, what, from when to when; and when a reply to it begins, if there is one
pub record Call : Type 0 where
  pub tap : ℕ
  pub octets : List ℕ
  pub begin : ℕ
  pub end : ℕ
  pub answered : ℕ

abbrev pub IsCall : Option Record → Call → Type 0
IsCall None call = ⊥
IsCall (Some r) call = (r.tap ≡ call.tap) × (r.octets ≡ call.octets) × (r.begin ≡ call.begin) × (r.end ≡ call.end)

-- ---- entries

-- a reply answers the last initiator telegram: it is another tap's, and begins in time after that has ended everywhere
pub record Answers (p : Params) (base : ℕ) (call : Call) (x : Record) : Type 0 where
  pub since : base ≤ call.begin
  pub another : x.tap ≡ call.tap → ⊥
  pub after : call.end + p.ttd ≤ x.begin
  pub soon : x.begin ≤ call.end + p.ttd + p.tsdr + p.lag
  pub at : x.begin ≡ call.answered
  pub wanted : wants_reply (brought_by call.octets) ≡ true
  pub told : is_question (brought_by call.octets) ≡ true → TellsNotReady (brought_by x.octets)

-- a telegram that is on its way: undamaged; a token goes to the next station of the ring; it came soon after the one
-- before; if it wants a reply, it is the last initiator telegram; and a reply answers that
pub record OnItsWay (p : Params) (base now : ℕ) (members : List ℕ) (trace : List Entry) (call : Call) (x : Record) : Type 0 where
  pub since : base ≤ x.begin
  pub undamaged : x.hits ≡ []
  pub full : x.end ≡ x.begin + bits (length x.octets)
  pub passes : (da sa : ℕ) → telegram_of x ≡ Token da sa → (is_member members sa ≡ true) × (da ≡ next_address sa members)
  pub origin : is_initiator x ≡ true → now ≤ x.begin + p.ttd → Origin p trace [] x
  pub single : wants_reply (telegram_of x) ≡ true → (x.tap ≡ call.tap) × (x.begin ≡ call.begin)
  pub answers : is_initiator x ≡ false → Answers p base call x

abbrev pub InRing : (p : Params) (base now : ℕ) (members : List ℕ) (trace : List Entry) (call : Call) → Entry → Type 0
InRing p base now members trace call (Noise span) = span.end ≤ base
InRing p base now members trace call (Sent x) = now < x.end + p.ttd → OnItsWay p base now members trace call x

-- while the last initiator telegram is on its way, replies are over since it began
abbrev pub IsPastReply : (delay now : ℕ) (call : Call) → Entry → Type 0
IsPastReply delay now call (Noise span) = Unit {0}
IsPastReply delay now call (Sent x) = now < call.end + delay → is_initiator x ≡ false → x.end + delay ≤ call.begin

-- ---- taps

-- the phases on a ring that is not disturbed
abbrev pub IsUndisturbed : Phase → Type 0
IsUndisturbed Offline = Unit {0}
IsUndisturbed PassiveIdle = Unit {0}
IsUndisturbed (Listening doubled) = ⊥
IsUndisturbed (Idle refused) = Unit {0}
IsUndisturbed (Claim sent ready) = ⊥
IsUndisturbed (Use asked ready) = Unit {0}
IsUndisturbed (AwaitData asked retry slot) = Unit {0}
IsUndisturbed (AwaitStatus of slot) = Unit {0}
IsUndisturbed (Pass tries ready) = ⊥
IsUndisturbed (Checking tries) = Unit {0}

-- the phases of a master in the ring
abbrev pub TakesPart : Phase → Type 0
TakesPart Offline = ⊥
TakesPart PassiveIdle = ⊥
TakesPart (Listening doubled) = ⊥
TakesPart (Idle refused) = Unit {0}
TakesPart (Claim sent ready) = ⊥
TakesPart (Use asked ready) = Unit {0}
TakesPart (AwaitData asked retry slot) = Unit {0}
TakesPart (AwaitStatus of slot) = Unit {0}
TakesPart (Pass tries ready) = ⊥
TakesPart (Checking tries) = Unit {0}

-- a list of active stations that is the members, of a station that is one of them and not skipped
pub record IsMember (members : List ℕ) (address : ℕ) (table : LasTable) : Type 0 where
  pub place : Place
  pub stage : table.stage ≡ Complete members (Some place)
  pub own : place.address ≡ address
  pub not_skipped : place.skipped ≡ 0
  pub member : is_member members address ≡ true

-- a station waits for a reply, in the slot of its request
abbrev pub IsArmed : Phase → Bool → Type 0
IsArmed Offline busy = ⊥
IsArmed PassiveIdle busy = ⊥
IsArmed (Listening doubled) busy = ⊥
IsArmed (Idle refused) busy = ⊥
IsArmed (Claim sent ready) busy = ⊥
IsArmed (Use asked ready) busy = ⊥
IsArmed (AwaitData asked retry slot) busy = (retry ≡ None) × (slot ≡ true) × (busy ≡ false)
IsArmed (AwaitStatus of slot) busy = (slot ≡ true) × (busy ≡ false)
IsArmed (Pass tries ready) busy = ⊥
IsArmed (Checking tries) busy = ⊥

-- one that waits for a status has asked for it
abbrev pub HasAskedFor : Phase → Bool → Type 0
HasAskedFor Offline question = Unit {0}
HasAskedFor PassiveIdle question = Unit {0}
HasAskedFor (Listening doubled) question = Unit {0}
HasAskedFor (Idle refused) question = Unit {0}
HasAskedFor (Claim sent ready) question = Unit {0}
HasAskedFor (Use asked ready) question = Unit {0}
HasAskedFor (AwaitData asked retry slot) question = Unit {0}
HasAskedFor (AwaitStatus of slot) question = question ≡ true
HasAskedFor (Pass tries ready) question = Unit {0}
HasAskedFor (Checking tries) question = Unit {0}

-- the tap at an index waits for a reply
abbrev pub ArmedAt : Params → List Tap → ℕ → Type 0
ArmedAt p taps k = (u : Tap) → slice_get taps k ≡ Some u → u.running ≡ true → IsArmed (view p u).phase (view p u).busy

-- a reply that is not sent yet answers the last initiator telegram, which was to this station, and after which nothing
-- was sent
pub record IsDue (p : Params) (base : ℕ) (taps : List Tap) (trace : List Entry) (call : Call) (k : ℕ) (t : Tap) (a : Reply) : Type 0 where
  pub since : base ≤ call.begin
  pub another : call.tap ≡ k → ⊥
  pub asked : goes_to (brought_by call.octets) ≡ Some t.spec.address
  pub wanted : wants_reply (brought_by call.octets) ≡ true
  pub ready : a.ready ≡ call.end + p.ttd + p.tsdr
  pub told : is_question (brought_by call.octets) ≡ true → TellsNotReady (brought_by a.octets)
  pub last : Each (BeganBefore (call.end + p.ttd)) trace
  pub armed : ArmedAt p taps call.tap

-- a running tap
pub record RingTap (p : Params) (base : ℕ) (members : List ℕ) (taps : List Tap) (trace : List Entry) (call : Call) (k : ℕ) (t : Tap) : Type 0 where
  pub undisturbed : IsUndisturbed (view p t).phase
  pub since : t.since < base
  pub active : t.spec.master ≡ true → (view p t).phase ≡ PassiveIdle → ⊥
  pub master : TakesPart (view p t).phase → t.spec.master ≡ true
  pub member : TakesPart (view p t).phase → IsMember members t.spec.address (view p t).las
  pub replies : IfSome (view p t).reply (λ a. IsDue p base taps trace call k t a)
  pub asked : base ≤ call.begin → call.tap ≡ k → HasAskedFor (view p t).phase (is_question (brought_by call.octets))

-- a tap that has the token, or to which it is on its way
pub record Bearer (p : Params) (now : ℕ) (taps : List Tap) (call : Call) : Type 0 where
  pub tap : ℕ
  pub t : Tap
  pub here : slice_get taps tap ≡ Some t
  pub running : t.running ≡ true
  pub part : TakesPart (view p t).phase
  pub bears : (may_initiate (view p t).phase ≡ true)
      ⊎ ((offered_by (brought_by call.octets) ≡ Some t.spec.address) × (now < call.end + p.ttd) × (call.tap ≡ tap → ⊥))

-- a tap that takes part in the ring with an address
pub record MemberAt (p : Params) (taps : List Tap) (a : ℕ) : Type 0 where
  pub tap : ℕ
  pub t : Tap
  pub here : slice_get taps tap ≡ Some t
  pub running : t.running ≡ true
  pub part : TakesPart (view p t).phase
  pub address : t.spec.address ≡ a

-- each member has a tap
abbrev pub HasTaps : Params → List ℕ → List Tap → Type 0
HasTaps p members taps = (a : ℕ) → is_member members a ≡ true → MemberAt p taps a

-- who asked waits, while the reply is on its way to it
abbrev pub IsAwaited : (p : Params) (now : ℕ) (taps : List Tap) (call : Call) → Entry → Type 0
IsAwaited p now taps call (Noise span) = Unit {0}
IsAwaited p now taps call (Sent x) = is_initiator x ≡ false → now ≤ x.begin + p.ttd → ArmedAt p taps call.tap

-- a ring since a moment, with its members
pub record Ring (w : World) (base : ℕ) (members : List ℕ) : Type 0 where
  pub call : Call
  pub is_call : IsCall (last_initiator w.now w.trace) call
  pub from : base ≤ w.now
  pub ascends : IsAscending members
  pub all : HasTaps w.params members w.taps
  pub bearer : Bearer w.params w.now w.taps call
  pub taps : (k : ℕ) (t : Tap) → slice_get w.taps k ≡ Some t → t.running ≡ true → RingTap w.params base members w.taps w.trace call k t
  pub entries : Each (InRing w.params base w.now members w.trace call) w.trace
  pub replies : Each (IsPastReply w.params.ttd w.now call) w.trace
  pub awaited : Each (IsAwaited w.params w.now w.taps call) w.trace
  pub request : wants_reply (brought_by call.octets) ≡ true → w.now < call.end + w.params.ttd → ArmedAt w.params w.taps call.tap
