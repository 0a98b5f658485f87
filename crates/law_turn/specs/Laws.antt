-- The words of the laws of a turn.
use Rattle.std.specs.Prelude.{◌≡◌, ℕ, ◌+◌, ◌<◌, ◌≤◌, Bool, true, false, ◌&&◌, ◌||◌, List, [], length, All, Option, IfSome, IsSome, None}
use Rattle.pb_telegram.specs.Faults.{is_token, has_control}
use Rattle.pb_timers.specs.Timers.{Params}
use Rattle.pb_cycles.specs.Fields.{Fields}
use Rattle.pb_cycles.specs.Messages.{has_bit, address_in, frame_octets, reply_octets}
use Rattle.pb_cycles.specs.RequestFields.{RequestFields}
use Rattle.pb_cycles.specs.Requests.{IsAddressed}
use Rattle.pb_cycles.specs.Initiating.{retry_of}
use Rattle.pb_cycles.specs.declared.initiators.OpenRequest.{OpenRequest}
use Rattle.law_turn.specs.Arrivals.{fields_of}
use Rattle.law_turn.specs.Phases.{Phase, Offline, PassiveIdle, Listening, Idle, Claim, Use, AwaitData, AwaitStatus, Pass, Checking}
use Rattle.law_turn.specs.Stations.{Station, Cycles, Reply, due_of, speaks_at}

-- a station without unread marks is due later than the clock, or not at all
abbrev pub IsDueLater : Params → Station → ℕ → Type 0
IsDueLater p s now = IfSome (due_of p s []) (λ due. now < due)

-- a phase in which no station is asked for its status again before the next receipt
abbrev pub HasAsked : Phase → Type 0
HasAsked Offline = ⊥
HasAsked PassiveIdle = ⊥
HasAsked (Listening doubled) = ⊥
HasAsked (Idle refused) = Unit {0}
HasAsked (Claim sent ready) = ⊥
HasAsked (Use asked ready) = asked ≡ true
HasAsked (AwaitData asked retry slot) = asked ≡ true
HasAsked (AwaitStatus of slot) = Unit {0}
HasAsked (Pass tries ready) = ⊥
HasAsked (Checking tries) = ⊥

-- a station is asked for its status
abbrev pub is_asking : Phase → Bool
is_asking Offline = false
is_asking PassiveIdle = false
is_asking (Listening doubled) = false
is_asking (Idle refused) = false
is_asking (Claim sent ready) = false
is_asking (Use asked ready) = false
is_asking (AwaitData asked retry slot) = false
is_asking (AwaitStatus of slot) = true
is_asking (Pass tries ready) = false
is_asking (Checking tries) = false

-- the station waits for a reply
abbrev pub awaits_reply : Phase → Bool
awaits_reply Offline = false
awaits_reply PassiveIdle = false
awaits_reply (Listening doubled) = false
awaits_reply (Idle refused) = false
awaits_reply (Claim sent ready) = false
awaits_reply (Use asked ready) = false
awaits_reply (AwaitData asked retry slot) = true
awaits_reply (AwaitStatus of slot) = true
awaits_reply (Pass tries ready) = false
awaits_reply (Checking tries) = false

-- the reply of a station to a request for its status: its control octet, and whether the station joins the ring by it
abbrev pub status_reply_of : Params → Station → ℕ → Fields → ℕ → Bool → Reply
status_reply_of p s at f fc joins = record {
  ready = at + p.tsdr;
  octets = frame_octets (record { da = address_in f.sa; sa = s.address; fc = fc; unit = [] });
  joins = joins;
}

-- octets that only the station with the token may send: those of a token, or of a request
abbrev pub are_initiator : List ℕ → Bool
are_initiator xs = is_token xs || (has_control xs && has_bit (fields_of xs).fc 6)

-- octets of a telegram that a station without the token may send
pub record IsReply (octets : List ℕ) : Type 0 where
  pub no_initiator : are_initiator octets ≡ false
  pub some : 0 < length octets
  pub fits : length octets ≤ 255

-- a reply that is not sent yet is such a telegram
abbrev pub HasReply : Station → Type 0
HasReply s = IfSome s.reply (λ r. IsReply r.octets)

-- data that fits in a telegram
abbrev pub Fits : List ℕ → Type 0
Fits unit = length unit ≤ 246

-- a request with a valid address and valid data
pub record IsRequest (r : RequestFields) : Type 0 where
  pub addressed : IsAddressed r.da r.service
  pub fits : Fits r.unit

-- an open request that was sent to a station
pub record IsOpenRequest (o : OpenRequest) : Type 0 where
  pub addressed : o.sent.da ≤ 126
  pub fits : Fits o.sent.unit
  pub request : has_bit o.sent.fc 6 ≡ true

-- a station can send what it keeps of its message cycles
pub record AreCycles (c : Cycles) : Type 0 where
  pub high : All IsRequest c.queue.high
  pub low : All IsRequest c.queue.low
  pub pending : IfSome c.initiator.pending IsOpenRequest
  pub unit : Fits c.responder.reply
  pub kept : IfSome c.responder.kept (λ k. IsReply (reply_octets k.reply))

-- the same for a station
abbrev pub HasCycles : Station → Type 0
HasCycles s = AreCycles s.cycles

-- a phase that waits for a reply has an open request, and a retry left if it has a moment to send it again
abbrev pub HasOpen : Option OpenRequest → Phase → Type 0
HasOpen pending Offline = Unit {0}
HasOpen pending PassiveIdle = Unit {0}
HasOpen pending (Listening doubled) = Unit {0}
HasOpen pending (Idle refused) = Unit {0}
HasOpen pending (Claim sent ready) = Unit {0}
HasOpen pending (Use asked ready) = Unit {0}
HasOpen pending (AwaitData asked retry slot) = IsSome pending × IfSome retry (λ ready. IsSome (retry_of pending))
HasOpen pending (AwaitStatus of slot) = Unit {0}
HasOpen pending (Pass tries ready) = Unit {0}
HasOpen pending (Checking tries) = Unit {0}

-- a station that waits for a reply has an open request, and a retry left if it waits to send it again
abbrev pub HasOpenRequest : Station → Type 0
HasOpenRequest s = HasOpen s.cycles.initiator.pending s.phase

-- a reply that is not sent yet waits only in a phase that answers requests
abbrev pub WaitsInPlace : Phase → Option Reply → Type 0
WaitsInPlace Offline reply = reply ≡ None
WaitsInPlace PassiveIdle reply = Unit {0}
WaitsInPlace (Listening doubled) reply = Unit {0}
WaitsInPlace (Idle refused) reply = Unit {0}
WaitsInPlace (Claim sent ready) reply = reply ≡ None
WaitsInPlace (Use asked ready) reply = reply ≡ None
WaitsInPlace (AwaitData asked retry slot) reply = reply ≡ None
WaitsInPlace (AwaitStatus of slot) reply = reply ≡ None
WaitsInPlace (Pass tries ready) reply = reply ≡ None
WaitsInPlace (Checking tries) reply = reply ≡ None

-- a busy station has nothing to send, and keeps no reply in a phase that answers no requests
pub record IsSilentWhileBusy (s : Station) : Type 0 where
  pub silent : s.busy ≡ true → speaks_at s ≡ None
  pub in_place : WaitsInPlace s.phase s.reply
