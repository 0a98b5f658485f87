-- A port as contracts see it, why it refuses a call, and what a call does.
use Rattle.std.specs.Prelude.{◌≡◌, ℕ, Bool, nat_lt, nat_le, List, [], ◌∷◌, ◌++◌, length, drop, Option, Some, None, Result, MatchResult}
use Rattle.pb_transitions.specs.Clocks.{last_turn}
use Rattle.pb_cycles.specs.RequestFields.{RequestFields}
use Rattle.pb_faults.specs.FirstFault.{first_fault}
use Rattle.pb_station.specs.Decisions.{turned}
use Rattle.pb_station.specs.Indications.{IndicationFields, indications_of}
use Rattle.pb_station.specs.Stations.{StationView, with_reply}
use Rattle.pb_timers.specs.Timers.{Params}
use Rattle.law_turn.specs.Marks.{Mark, moment_of, seen_at}
use Rattle.law_turn.specs.Stations.{due_of, list_for, new_station, pushed, started, stopped}
use Rattle.pb_port.specs.declared.faults.PortFault.{PortFault}
use Rattle.pb_port.specs.declared.faults.PortFault.TheVariants.{TooLate, Backwards, Ahead, TooLong, InboxFull, QueueFull}

pub record PortView : Type 0 where
  pub station : StationView
  pub room : ℕ  -- how many marks may be unread
  pub marks : List Mark  -- the unread ones
  pub clock : ℕ  -- the latest moment of a call
  pub past : ℕ  -- the latest of the marks' own moments, the turns and the start: no later mark may be before it
  pub indications : List IndicationFields  -- the requests of others that the last turn executed

-- ---- why a call is refused

-- of a call at a moment
abbrev pub clock_faults : PortView → ℕ → List (Bool × PortFault)
clock_faults p now = (nat_lt last_turn now, TooLate) ∷ (nat_lt now p.clock, Backwards) ∷ []

-- of a mark that is delivered at a moment
abbrev pub mark_faults : PortView → (at seen : ℕ) → (characters : ℕ) → List (Bool × PortFault)
mark_faults p at seen characters =
    (nat_lt last_turn seen, TooLate)
    ∷ (nat_lt seen p.clock, Backwards)
    ∷ (nat_lt at p.past, Backwards)
    ∷ (nat_lt seen at, Ahead)
    ∷ (nat_lt 255 characters, TooLong)
    ∷ (nat_le p.room (length p.marks), InboxFull)
    ∷ []

-- of a request that is to wait
abbrev pub push_faults : PortView → RequestFields → List (Bool × PortFault)
push_faults p r = (nat_le 16 (length (list_for p.station.station.cycles.queue r)), QueueFull) ∷ []

-- ---- what a call does

-- the station doesn't run, and nothing was heard; so many marks may be unread
abbrev pub port_with_room : ℕ → Params → ℕ → Bool → List ℕ → PortView
port_with_room room params address master reply = record {
  station = record { tap = 0; params = params; master = master; reply_data = reply; station = new_station params address reply };
  room = room;
  marks = [];
  clock = 0;
  past = 0;
  indications = [];
}

abbrev pub new_port : Params → ℕ → Bool → List ℕ → PortView
new_port = port_with_room 64

-- the station starts at a moment, and nothing was heard
abbrev pub started_port : PortView → ℕ → PortView
started_port p now = record {
  station = record p.station { station = started p.station.params p.station.station p.station.master now };
  room = p.room;
  marks = [];
  clock = now;
  past = now;
  indications = [];
}

-- the station stops, and its unread marks are dropped
abbrev pub stopped_port : PortView → PortView
stopped_port p = record p { station = record p.station { station = stopped p.station.station }; marks = [] }

-- a request waits at the station
abbrev pub pushed_port : PortView → RequestFields → PortView
pushed_port p r = record p { station = record p.station { station = pushed p.station.station r } }

-- a mark is delivered
abbrev pub told_port : PortView → Mark → PortView
told_port p m = record p { marks = p.marks ++ m ∷ []; clock = seen_at m; past = moment_of m }

-- when the station has to take its turn
abbrev pub due_port : PortView → Option ℕ
due_port p = due_of p.station.params p.station.station p.marks

-- the station takes its turn at a moment with its unread marks; and what it says
abbrev pub turned_port : PortView → ℕ → PortView
turned_port p now = record {
  station = (turned p.station p.marks now).0;
  room = p.room;
  marks = [];
  clock = now;
  past = now;
  indications = indications_of p.station.params p.station.station p.marks;
}

-- the station replies to the next request for data with other data
abbrev pub replying_port : PortView → List ℕ → PortView
replying_port p reply = record p { station = with_reply p.station reply }

abbrev pub said_by : PortView → ℕ → Option (List ℕ)
said_by p now = (turned p.station p.marks now).1

-- ---- a call does what it does where none of some faults applies, and else is refused with the first of them

abbrev pub Answers : PortView → List (Bool × PortFault) → PortView → Result (Unit {0}) PortFault → PortView → Type 0
Answers old faults does result new = MatchResult result
    (λ _. (first_fault faults ≡ None) × (new ≡ does))
    (λ fault. (first_fault faults ≡ Some fault) × (new ≡ old))

-- what a turn sends stands at the front of some octets, and the others are as before: so many of them, none where it sends
-- nothing
abbrev pub Sends : Option (List ℕ) → ℕ → (old out : List ℕ) → Type 0
Sends None count old out = (count ≡ 0) × (out ≡ old)
Sends (Some octets) count old out = (count ≡ length octets) × (out ≡ octets ++ drop count old)
