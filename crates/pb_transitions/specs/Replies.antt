-- A reply that is not sent yet, and the type of a station in it.
use Rattle.std.specs.Option.{option_map, option_or}
use Rattle.std.specs.Prelude.{ℕ, ◌+◌, ◌==◌, ◌||◌, Bool, true, false, not, if◌then◌else◌, [], Option, Some, None}
use Rattle.pb_timers.specs.Timers.{Params}
use Rattle.pb_telegram.specs.Control.{type_bits}
use Rattle.pb_telegram.specs.declared.control.StationType.{StationType}
use Rattle.pb_telegram.specs.declared.control.StationType.TheVariants.{Passive, NotReady, Ready, InRing}
use Rattle.pb_telegram.specs.declared.heads.Head.{Head}
use Rattle.pb_telegram.specs.declared.telegrams.Telegram.{Telegram}
use Rattle.pb_telegram.specs.declared.telegrams.Telegram.TheVariants as telegram
use Rattle.pb_cycles.specs.Fields.{Fields}
use Rattle.pb_cycles.specs.Messages.{address_in, reply_octets}
use Rattle.pb_cycles.specs.declared.messages.Message.{Message}
use Rattle.pb_cycles.specs.Responding.{reply_frame, reply_to_message, after_message}
use Rattle.law_turn.specs.Arrivals.{Arrival, Token, Framed, Acknowledgement, NoTelegram}
use Rattle.law_turn.specs.Stations as turn
use Rattle.law_turn.specs.Hearing.{asks_status}
use Rattle.pb_transitions.specs.declared.replies.Reply.{Reply}

abbrev pub reply_of : Reply → turn.Reply
reply_of r = record { ready = r.ready; octets = r.octets.items; joins = r.joins }

-- a station that replies that it is ready joins the ring
abbrev pub joins : StationType → Bool
joins Passive = false
joins NotReady = false
joins Ready = true
joins InRing = false

-- the fields of a telegram without data that has this head
abbrev pub fields_of : Head → Fields
fields_of h = record { da = h.da; sa = h.sa; fc = h.fc; unit = [] }

-- the answer of a station to a telegram that ended at a moment, if that asks for its status
abbrev pub answer_to : Params → (ts at : ℕ) → Fields → StationType → Option turn.Reply
answer_to p ts at f station_type =
    if asks_status ts f
    then Some (record { ready = at + p.tsdr; octets = reply_octets (reply_frame ts (type_bits station_type) f 0 []); joins = joins station_type })
    else None

-- an address octet is that of a station, or of all
abbrev pub is_for : (ts da : ℕ) → Bool
is_for ts da = address_in da == ts || address_in da == 127

-- the arrival is no token, and is for neither a station nor all
abbrev pub is_for_others : ℕ → Arrival → Bool
is_for_others ts (Token da sa) = false
is_for_others ts (Framed f) = not (is_for ts f.da)
is_for_others ts Acknowledgement = true
is_for_others ts NoTelegram = true

-- a telegram is addressed to a station, or to all
abbrev pub goes_to : ℕ → Telegram → Bool
goes_to ts (telegram.Short t) = is_for ts t.da
goes_to ts (telegram.Var t) = is_for ts t.da
goes_to ts (telegram.Fixed8 t) = is_for ts t.da
goes_to ts (telegram.Token t) = false
goes_to ts telegram.Ack = false

-- the reply made from a responder's answer to a message that ended at a moment
abbrev pub reply_to : Params → turn.Station → ℕ → ℕ → Message → Option turn.Reply
reply_to p s at station_type m =
    option_map (λ reply. record { ready = at + p.tsdr; octets = reply_octets reply; joins = false }) (reply_to_message s.cycles.responder s.address station_type m)

-- a station of some type answers a message; it executes a request that it has not executed before
abbrev pub answers : Params → turn.Station → ℕ → ℕ → Message → turn.Station
answers p s at station_type m = record s {
  reply = option_or (reply_to p s at station_type m) s.reply;
  cycles = record s.cycles { responder = after_message s.cycles.responder s.address station_type m };
}
