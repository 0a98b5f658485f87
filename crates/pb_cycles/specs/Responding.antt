-- The steps of a responder's table.
use Rattle.std.specs.Prelude.{ℕ, ◌+◌, ◌*◌, ◌%◌, ◌^◌, ◌-◌, ◌==◌, min, Bool, false, not, ◌&&◌, ◌||◌, if◌then◌else◌, List, [], length, Option, Some, None}
use Rattle.pb_cycles.specs.Fields.{Fields}
use Rattle.pb_cycles.specs.Messages.{has_bit, address_in}
use Rattle.pb_cycles.specs.Requests.{is_high, asked_by}
use Rattle.pb_cycles.specs.declared.messages.Message.{Message}
use Rattle.pb_cycles.specs.declared.messages.Message.TheVariants.{Framed, Acknowledgement, TokenPass}
use Rattle.pb_cycles.specs.declared.messages.Reply.{Reply}
use Rattle.pb_cycles.specs.declared.messages.Reply.TheVariants.{Answer, Acknowledge}
use Rattle.pb_cycles.specs.declared.services.Asked.{Asked}
use Rattle.pb_cycles.specs.declared.services.Asked.TheVariants.{Send, Status, Unknown}
use Rattle.pb_cycles.specs.declared.services.Priority.{Priority}
use Rattle.pb_cycles.specs.declared.services.Service.{Service}
use Rattle.pb_cycles.specs.declared.services.Service.TheVariants.{Sda, Sdn, Srd}
use Rattle.pb_cycles.specs.Tables.{ResponderTable}
use Rattle.pb_cycles.specs.declared.responders.Kept.{Kept}

-- ---- replies

-- a reply telegram from ts to the station that sent f; bit 7 of both addresses is clear
abbrev pub reply_frame : ℕ → ℕ → Fields → ℕ → List ℕ → Reply
reply_frame ts station_type f code unit = Answer (record { da = address_in f.sa; sa = ts; fc = 16 * station_type + code; unit = unit })

-- the reply to an SRD: the reply data with the priority of the request, or NR if there is none
abbrev pub data_reply : ℕ → ℕ → Fields → Priority → List ℕ → Reply
data_reply ts station_type f priority data_unit =
    if length data_unit == 0 then reply_frame ts station_type f 9 []
    else if is_high priority then reply_frame ts station_type f 10 data_unit
    else reply_frame ts station_type f 8 data_unit

-- the reply to an executed SDA or SRD (an SDN has no reply); neither supports an address extension
abbrev pub service_reply : ℕ → ℕ → Fields → Service → Priority → List ℕ → Reply
service_reply ts station_type f Sda priority unit = if has_bit f.da 7 then reply_frame ts station_type f 3 [] else Acknowledge
service_reply ts station_type f Sdn priority unit = Acknowledge
service_reply ts station_type f Srd priority unit = if has_bit f.da 7 then reply_frame ts station_type f 3 [] else data_reply ts station_type f priority unit

-- ---- execution

abbrev pub same_bit : Bool → Bool → Bool
same_bit a b = if a then b else not b

-- an SDA or SRD is a repeat: its frame count bit is valid, and requester and bit are those of the kept one
abbrev pub is_repeat : Option Kept → Fields → Bool
is_repeat (Some k) f = has_bit f.fc 4 && (k.requester == address_in f.sa && same_bit k.bit (has_bit f.fc 5))
is_repeat None f = false

-- a count of 64 bits that saturates
abbrev pub one_more : ℕ → ℕ
one_more n = min (2 ^ 64 - 1) (n + 1)

abbrev pub counted : ResponderTable → ResponderTable
counted t = record t { executed = one_more t.executed }

-- the table after an SDA or SRD that is executed, with its reply
abbrev pub executed : ResponderTable → Fields → Reply → ResponderTable
executed t f reply = record {
  reply = t.reply;
  kept = Some (record { requester = address_in f.sa; bit = has_bit f.fc 5; reply = reply });
  executed = one_more t.executed;
}

abbrev pub kept_reply : Option Kept → Option Reply
kept_reply (Some k) = Some k.reply
kept_reply None = None

-- the table after an SDA or SRD, which is executed once
abbrev pub once : ResponderTable → Fields → Reply → ResponderTable
once t f reply = if is_repeat t.kept f then t else executed t f reply

-- the reply to it: a repeat gets the kept one
abbrev pub reply_once : ResponderTable → Fields → Reply → Option Reply
reply_once t f reply = if is_repeat t.kept f then kept_reply t.kept else Some reply

-- the table after a request for a service; an SDN to all stations is also one to this station
abbrev pub after_service : ResponderTable → ℕ → ℕ → Fields → Service → Priority → ResponderTable
after_service t ts station_type f Sda priority = if address_in f.da == ts then once t f (service_reply ts station_type f Sda priority t.reply) else t
after_service t ts station_type f Sdn priority = if address_in f.da == ts || address_in f.da == 127 then counted t else t
after_service t ts station_type f Srd priority = if address_in f.da == ts then once t f (service_reply ts station_type f Srd priority t.reply) else t

-- the reply to it
abbrev pub reply_to_service : ResponderTable → ℕ → ℕ → Fields → Service → Priority → Option Reply
reply_to_service t ts station_type f Sda priority = if address_in f.da == ts then reply_once t f (service_reply ts station_type f Sda priority t.reply) else None
reply_to_service t ts station_type f Sdn priority = None
reply_to_service t ts station_type f Srd priority = if address_in f.da == ts then reply_once t f (service_reply ts station_type f Srd priority t.reply) else None

abbrev pub after_asked : ResponderTable → ℕ → ℕ → Fields → Asked → ResponderTable
after_asked t ts station_type f (Send service priority) = after_service t ts station_type f service priority
after_asked t ts station_type f Status = t
after_asked t ts station_type f Unknown = t

abbrev pub reply_to_asked : ResponderTable → ℕ → ℕ → Fields → Asked → Option Reply
reply_to_asked t ts station_type f (Send service priority) = reply_to_service t ts station_type f service priority
reply_to_asked t ts station_type f Status = if address_in f.da == ts then Some (reply_frame ts station_type f 0 []) else None
reply_to_asked t ts station_type f Unknown = None

-- the table after a telegram with a control octet
abbrev pub after_framed : ResponderTable → ℕ → ℕ → Fields → ResponderTable
after_framed t ts station_type f = if has_bit f.fc 6 then after_asked t ts station_type f (asked_by (f.fc % 16)) else t

-- the reply to it
abbrev pub reply_to_framed : ResponderTable → ℕ → ℕ → Fields → Option Reply
reply_to_framed t ts station_type f = if has_bit f.fc 6 then reply_to_asked t ts station_type f (asked_by (f.fc % 16)) else None

-- the table after a message
abbrev pub after_message : ResponderTable → ℕ → ℕ → Message → ResponderTable
after_message t ts station_type (Framed f) = after_framed t ts station_type f
after_message t ts station_type Acknowledgement = t
after_message t ts station_type TokenPass = t

-- the station's reply to it
abbrev pub reply_to_message : ResponderTable → ℕ → ℕ → Message → Option Reply
reply_to_message t ts station_type (Framed f) = reply_to_framed t ts station_type f
reply_to_message t ts station_type Acknowledgement = None
reply_to_message t ts station_type TokenPass = None
