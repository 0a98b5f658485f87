-- What a responder's table represents: the list of what the station heard.
use Rattle.std.specs.Prelude.{◌≡◌, ℕ, ◌+◌, ◌-◌, ◌^◌, ◌%◌, ◌==◌, min, Bool, false, ◌&&◌, ◌||◌, if◌then◌else◌, List, [], ◌∷◌, count_by, Option, Some, None}
use Rattle.std.specs.List.{flat_map}
use Rattle.pb_cycles.specs.Fields.{Fields}
use Rattle.pb_cycles.specs.Messages.{has_bit, address_in}
use Rattle.pb_cycles.specs.Requests.{asked_by}
use Rattle.pb_cycles.specs.declared.messages.Message.{Message}
use Rattle.pb_cycles.specs.declared.messages.Message.TheVariants.{Framed, Acknowledgement, TokenPass}
use Rattle.pb_cycles.specs.declared.messages.Reply.{Reply}
use Rattle.pb_cycles.specs.declared.services.Asked.{Asked}
use Rattle.pb_cycles.specs.declared.services.Asked.TheVariants.{Send, Status, Unknown}
use Rattle.pb_cycles.specs.declared.services.Priority.{Priority}
use Rattle.pb_cycles.specs.declared.services.Service.{Service}
use Rattle.pb_cycles.specs.declared.services.Service.TheVariants.{Sda, Sdn, Srd}
use Rattle.pb_cycles.specs.Responding.{same_bit, service_reply}
use Rattle.pb_cycles.specs.Tables.{ResponderTable}
use Rattle.pb_cycles.specs.declared.responders.Kept.{Kept}

-- a message, and the station's type when it was heard
pub record Heard : Type 0 where
  pub station_type : ℕ
  pub message : Message

-- an SDA or SRD to the station
pub record Call : Type 0 where
  pub station_type : ℕ
  pub frame : Fields
  pub service : Service
  pub priority : Priority

-- ---- the calls among what was heard

abbrev pub service_calls : ℕ → ℕ → Fields → Service → Priority → List Call
service_calls ts station_type f Sda priority = if address_in f.da == ts then record { station_type = station_type; frame = f; service = Sda; priority = priority } ∷ [] else []
service_calls ts station_type f Sdn priority = []
service_calls ts station_type f Srd priority = if address_in f.da == ts then record { station_type = station_type; frame = f; service = Srd; priority = priority } ∷ [] else []

abbrev pub asked_calls : ℕ → ℕ → Fields → Asked → List Call
asked_calls ts station_type f (Send service priority) = service_calls ts station_type f service priority
asked_calls ts station_type f Status = []
asked_calls ts station_type f Unknown = []

abbrev pub message_calls : ℕ → ℕ → Message → List Call
message_calls ts station_type (Framed f) = if has_bit f.fc 6 then asked_calls ts station_type f (asked_by (f.fc % 16)) else []
message_calls ts station_type Acknowledgement = []
message_calls ts station_type TokenPass = []

abbrev pub calls : ℕ → List Heard → List Call
calls ts heard = flat_map (λ h. message_calls ts h.station_type h.message) heard

-- ---- the SDN among what was heard, to the station or to all

abbrev pub is_told_by : ℕ → Fields → Asked → Bool
is_told_by ts f (Send Sda priority) = false
is_told_by ts f (Send Sdn priority) = address_in f.da == ts || address_in f.da == 127
is_told_by ts f (Send Srd priority) = false
is_told_by ts f Status = false
is_told_by ts f Unknown = false

abbrev pub is_told : ℕ → Message → Bool
is_told ts (Framed f) = if has_bit f.fc 6 then is_told_by ts f (asked_by (f.fc % 16)) else false
is_told ts Acknowledgement = false
is_told ts TokenPass = false

-- ---- repeats

-- a call repeats the one before it: its frame count bit is valid, and requester and bit are the same
abbrev pub repeats : Call → Call → Bool
repeats before c = has_bit c.frame.fc 4
    && (address_in before.frame.sa == address_in c.frame.sa && same_bit (has_bit before.frame.fc 5) (has_bit c.frame.fc 5))

-- how many calls after the first are no repeats
abbrev pub new_behind : Call → List Call → ℕ
new_behind before [] = 0
new_behind before (c ∷ cs) = (if repeats before c then 0 else 1) + new_behind c cs

-- how many calls are no repeats
abbrev pub new_calls : List Call → ℕ
new_calls [] = 0
new_calls (c ∷ cs) = 1 + new_behind c cs

-- the number of SDA, SRD and SDN that are no repeats; a count of 64 bits saturates
abbrev pub executed_in : ℕ → List Heard → ℕ
executed_in ts heard = min (2 ^ 64 - 1) (count_by (λ h. is_told ts h.message) heard + new_calls (calls ts heard))

-- ---- what is kept of the last call

abbrev pub last_behind : Call → List Call → Call
last_behind before [] = before
last_behind before (c ∷ cs) = last_behind c cs

-- the last call that is no repeat, starting with one that is none
abbrev pub last_new_behind : Call → Call → List Call → Call
last_new_behind newest before [] = newest
last_new_behind newest before (c ∷ cs) = last_new_behind (if repeats before c then newest else c) c cs

abbrev pub call_reply : ℕ → List ℕ → Call → Reply
call_reply ts unit c = service_reply ts c.station_type c.frame c.service c.priority unit

-- requester and bit of the last call, and the reply to the last one that is no repeat
abbrev pub kept_in : ℕ → List ℕ → List Call → Option Kept
kept_in ts unit [] = None
kept_in ts unit (c ∷ cs) = Some (record {
  requester = address_in (last_behind c cs).frame.sa;
  bit = has_bit (last_behind c cs).frame.fc 5;
  reply = call_reply ts unit (last_new_behind c c cs);
})

-- ---- the table

pub record ResponderStandsFor (ts : ℕ) (t : ResponderTable) (heard : List Heard) : Type 0 where
  pub executed : t.executed ≡ executed_in ts heard
  pub kept : t.kept ≡ kept_in ts t.reply (calls ts heard)
