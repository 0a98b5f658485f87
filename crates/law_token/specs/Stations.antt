-- What holds of each tap's station after every event, whatever the premises, whether it runs or not.
use Rattle.std.specs.Prelude.{◌≡◌, ℕ, ◌%◌, ◌<◌, true, false, List, map, None, IfSome}
use Rattle.pb_telegram.specs.Faults.{fault_of}
use Rattle.pb_telegram.specs.declared.chars.RxChar.TheVariants.{Good}
use Rattle.pb_timers.specs.Timers.{Params}
use Rattle.pb_cycles.specs.Messages.{reply_octets}
use Rattle.pb_cycles.specs.declared.messages.Reply as messages
use Rattle.pb_cycles.specs.declared.initiators.OpenRequest.{OpenRequest}
use Rattle.law_turn.specs.Laws.{Fits, HasReply, HasCycles, HasOpenRequest}
use Rattle.law_turn.specs.Pasts.{Past, StandsForPast}
use Rattle.law_turn.specs.Phases.{Phase, Offline, PassiveIdle, Listening, Idle, Claim, Use, AwaitData, AwaitStatus, Pass, Checking}
use Rattle.law_turn.specs.Stations.{Station, Cycles}
use Rattle.law_model.specs.Medium.{Tap}

-- ---- what a station keeps to send spells telegrams

abbrev pub IsGood : List ℕ → Type 0
IsGood octets = fault_of (map Good octets) ≡ None

abbrev pub IsSaid : messages.Reply → Type 0
IsSaid reply = IsGood (reply_octets reply)

-- an open request has addresses and a control octet that a telegram may have
abbrev pub IsOpen : OpenRequest → Type 0
IsOpen o = (o.sent.sa % 128 < 127) × (o.sent.fc < 128)

-- what a station with an address keeps of its message cycles, and the data with which it replies
pub record CyclesOk (address : ℕ) (c : Cycles) : Type 0 where
  pub here : address < 127
  pub pending : IfSome c.initiator.pending IsOpen
  pub unit : Fits c.responder.reply
  pub kept : IfSome c.responder.kept (λ k. IsSaid k.reply)

abbrev pub Spells : Station → Type 0
Spells s = IfSome s.reply (λ r. IsGood r.octets) × CyclesOk s.address s.cycles

-- ---- phases

-- a phase that only a master has
abbrev pub IsActive : Phase → Type 0
IsActive Offline = ⊥
IsActive PassiveIdle = ⊥
IsActive (Listening doubled) = Unit {0}
IsActive (Idle refused) = Unit {0}
IsActive (Claim sent ready) = Unit {0}
IsActive (Use asked ready) = Unit {0}
IsActive (AwaitData asked retry slot) = Unit {0}
IsActive (AwaitStatus of slot) = Unit {0}
IsActive (Pass tries ready) = Unit {0}
IsActive (Checking tries) = Unit {0}

-- ---- a tap

-- a station with nothing kept as a responder
abbrev pub unasked : Station → Station
unasked s = record s { cycles = record s.cycles { responder = record { reply = s.cycles.responder.reply; kept = None; executed = 0 } } }

-- The station has the tap's address and replies with the tap's data, and it can send what it keeps; only a master is in
-- the ring or listens for it; a station that waits for a reply has an open request; the tables of a running one
-- represent a past, apart from what it keeps as a responder, which may have data of before a change; a stopped one is
-- offline.
pub record TapStays (p : Params) (t : Tap) : Type 0 where
  pub address : t.station.address ≡ t.spec.address
  pub below : t.station.address < 127
  pub sayable : HasReply t.station × HasCycles t.station
  pub opened : HasOpenRequest t.station
  pub ranked : IsActive t.station.phase → t.spec.master ≡ true
  pub past : t.running ≡ true → (past : Past) × StandsForPast p (unasked t.station) past
  pub spells : Spells t.station
  pub stopped : t.running ≡ false → t.station.phase ≡ Offline
  pub replies : t.station.cycles.responder.reply ≡ t.spec.reply
