-- The state of a station, and the moments at which it acts.
use Rattle.std.specs.Prelude.{ℕ, ◌+◌, Bool, false, if◌then◌else◌, List, [], ◌∷◌, Option, Some, None, min, replicate}
use Rattle.pb_timers.specs.Timers.{Params, tto}
use Rattle.pb_ring.specs.AddressSets.{next_address, previous_address}
use Rattle.pb_ring.specs.Las.{LasTable, listening, members_of}
use Rattle.pb_ring.specs.declared.gaps.Round.{Round}
use Rattle.pb_ring.specs.declared.gaps.Round.TheVariants.{Open}
use Rattle.pb_rotation.specs.Rotation.{Rotation, fresh}
use Rattle.pb_cycles.specs.Queued.{Queued, put}
use Rattle.pb_cycles.specs.RequestFields.{RequestFields}
use Rattle.pb_cycles.specs.Tables.{InitiatorTable, ResponderTable}
use Rattle.pb_telegram.specs.declared.control.FrameCount.TheVariants.{First}
use Rattle.pb_cycles.specs.declared.outcomes.Outcome.{Outcome}
use Rattle.law_turn.specs.Spans.{Span}
use Rattle.law_turn.specs.Marks.{Mark, seen_at}
use Rattle.law_turn.specs.Phases.{Phase, Offline, PassiveIdle, Listening, Idle, Claim, Use, AwaitData, AwaitStatus, Pass, Checking}

-- A reply that is not sent yet. By one that says that it is ready, the station joins the ring.
pub record Reply : Type 0 where
  pub ready : ℕ
  pub octets : List ℕ
  pub joins : Bool

-- what a station keeps of its message cycles
pub record Cycles : Type 0 where
  -- the requests that wait
  pub queue : Queued
  pub initiator : InitiatorTable
  pub responder : ResponderTable
  -- the last outcome of a cycle, with its station
  pub last_outcome : Option (ℕ × Outcome)

pub record Station : Type 0 where
  pub address : ℕ
  pub phase : Phase
  -- whether a Begin was read and its End was not
  pub busy : Bool
  -- the latest of its start, its last End and the end of its own last telegram
  pub quiet : ℕ
  -- its own last telegram; if there is none, the empty stretch at its start
  pub own : Span
  pub reply : Option Reply
  -- the list of active stations
  pub las : LasTable
  -- the GAP round
  pub gap : Round
  pub rotation : Rotation
  pub cycles : Cycles

-- ---- neighbours

abbrev pub next_station : Station → ℕ
next_station s = next_address s.address (members_of s.las.stage)

abbrev pub previous_station : Station → ℕ
previous_station s = previous_address s.address (members_of s.las.stage)

-- ---- moments

-- when silence has lasted for the time-out
abbrev pub silence_timer : Params → Station → ℕ
silence_timer p s = s.quiet + tto p s.address

-- when the slot after the own telegram ends
abbrev pub slot_timer : Params → Station → ℕ
slot_timer p s = s.own.end + p.tsl

-- the timer of a phase while nothing is heard
abbrev pub phase_timer : Params → Station → Phase → Option ℕ
phase_timer p s Offline = None
phase_timer p s PassiveIdle = None
phase_timer p s (Listening doubled) = Some (silence_timer p s)
phase_timer p s (Idle refused) = Some (silence_timer p s)
phase_timer p s (Claim sent ready) = None
phase_timer p s (Use asked ready) = None
phase_timer p s (AwaitData asked retry slot) = if slot then Some (slot_timer p s) else None
phase_timer p s (AwaitStatus of slot) = if slot then Some (slot_timer p s) else None
phase_timer p s (Pass tries ready) = None
phase_timer p s (Checking tries) = Some (slot_timer p s)

-- the station's timer: it waits while the station is busy
abbrev pub timer_of : Params → Station → Option ℕ
timer_of p s = if s.busy then None else phase_timer p s s.phase

abbrev pub reply_moment : Option Reply → Option ℕ
reply_moment None = None
reply_moment (Some r) = Some r.ready

-- the moment at which a phase speaks: a holder when it is ready, any other with a reply
abbrev pub phase_speaks : Option Reply → Phase → Option ℕ
phase_speaks reply Offline = None
phase_speaks reply PassiveIdle = reply_moment reply
phase_speaks reply (Listening doubled) = reply_moment reply
phase_speaks reply (Idle refused) = reply_moment reply
phase_speaks reply (Claim sent ready) = Some ready
phase_speaks reply (Use asked ready) = Some ready
phase_speaks reply (AwaitData asked retry slot) = retry
phase_speaks reply (AwaitStatus of slot) = None
phase_speaks reply (Pass tries ready) = Some ready
phase_speaks reply (Checking tries) = None

abbrev pub speaks_at : Station → Option ℕ
speaks_at s = phase_speaks s.reply s.phase

abbrev pub first_seen : List Mark → Option ℕ
first_seen [] = None
first_seen (m ∷ ms) = Some (seen_at m)

-- the earlier of two moments; if one is none, the other
abbrev pub earlier : Option ℕ → Option ℕ → Option ℕ
earlier None b = b
earlier (Some a) None = Some a
earlier (Some a) (Some b) = Some (min a b)

-- when the station has to take its turn: at the first unread mark, the timer or the speaking moment
abbrev pub due_of : Params → Station → List Mark → Option ℕ
due_of p s marks = earlier (first_seen marks) (earlier (timer_of p s) (speaks_at s))

-- ---- a new station, and one that starts

-- nothing waits, and nothing was sent or heard
abbrev pub new_cycles : Params → List ℕ → Cycles
new_cycles p reply = record {
  queue = record { high = []; low = [] };
  initiator = record { retries = p.retries; counts = replicate 127 First; pending = None };
  responder = record { reply = reply; kept = None; executed = 0 };
  last_outcome = None;
}

-- a station with an address, and the data with which it replies to a request for data
abbrev pub new_station : Params → ℕ → List ℕ → Station
new_station p address reply = record {
  address = address;
  phase = Offline;
  busy = false;
  quiet = 0;
  own = record { begin = 0; end = 0 };
  reply = None;
  las = listening;
  gap = Open None;
  rotation = fresh p.ttr;
  cycles = new_cycles p reply;
}

-- a master listens for the ring, a passive station waits for requests
abbrev pub started : Params → Station → Bool → ℕ → Station
started p s master now = record (new_station p s.address s.cycles.responder.reply) {
  phase = if master then Listening false else PassiveIdle;
  quiet = now;
  own = record { begin = now; end = now };
}

-- a station that stops sends nothing more; all else is unchanged
abbrev pub stopped : Station → Station
stopped s = record s { phase = Offline; reply = None }

-- the list of a request's priority
abbrev pub list_for : Queued → RequestFields → List RequestFields
list_for q r = if r.high then q.high else q.low

-- a request is appended to those of its priority, if their list is not full
abbrev pub queued : Queued → RequestFields → Queued
queued q r = if r.high then record q { high = put q.high r } else record q { low = put q.low r }

abbrev pub pushed : Station → RequestFields → Station
pushed s r = record s { cycles = record s.cycles { queue = queued s.cycles.queue r } }
