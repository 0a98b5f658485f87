-- The world: taps on one medium, the clock and the trace; its events and their refusals.
use Rattle.std.specs.Prelude.{◌≡◌, ℕ, ◌+◌, Bool, false, if◌then◌else◌, ◌==◌, nat_lt, ◌&&◌, List, [], ◌∷◌, length, map, Option, Some, None, Result, Ok, Err, is_some, unwrap_or}
use Rattle.pb_faults.specs.FirstFault.{first_fault}
use Rattle.pb_timers.specs.Timers.{Params}
use Rattle.pb_cycles.specs.RequestFields.{RequestFields}
use Rattle.law_turn.specs.Stations.{earlier, new_station}
use Rattle.law_model.specs.Trace as trace
use Rattle.law_model.specs.Trace.{Entry, Sent}
use Rattle.law_model.specs.Medium.{TapSpec, Tap, reaches}

pub record World : Type 0 where
  pub params : Params
  pub now : ℕ
  pub trace : List Entry
  pub taps : List Tap
  -- how many entries the trace may have
  pub limit : ℕ

pub data Event : Type 0 where
  -- a station takes its turn
  Turn : (tap : ℕ) → Event
  -- time passes
  Pass : (bits : ℕ) → Event
  -- a tap receives a speaker's telegram damaged, at one character or at every character
  Damage : (tap speaker : ℕ) (place : Option ℕ) → Event
  -- a station starts
  Start : (tap : ℕ) → Event
  -- a station stops: a telegram that it is sending ends with the character being sent
  Stop : (tap : ℕ) → Event
  -- a request is appended to those that wait at a station
  Queue : (tap : ℕ) (request : RequestFields) → Event
  -- noise reaches every tap
  Noise : (bits : ℕ) → Event
  -- a telegram that began now is lost at a tap
  Unheard : (tap speaker : ℕ) → Event

-- the clock after an event, and what a turn sent
pub record Reply : Type 0 where
  pub now : ℕ
  pub spoke : Option (List ℕ)

-- why an event is refused, in the order of the numbers 1 to 10
pub data Fault : Type 0 where
  NoSuchTap : Fault
  Running : Fault
  NotRunning : Fault
  NothingInAir : Fault
  ZeroTime : Fault
  TooFar : (furthest : ℕ) → Fault
  ClockFull : Fault
  QueueFull : Fault
  InboxFull : (tap : ℕ) → Fault
  TraceFull : Fault

-- why a new world is refused
pub data NewFault : Type 0 where
  NoTaps : NewFault
  TooManyTaps : NewFault
  BadAddress : (tap : ℕ) → NewFault

-- ---- limits

abbrev pub tap_limit : ℕ
tap_limit = 127

abbrev pub clock_limit : ℕ
clock_limit = 1000000000000

abbrev pub mark_limit : ℕ
mark_limit = 64

-- the most requests of a priority that wait at a station
abbrev pub queue_limit : ℕ
queue_limit = 16

abbrev pub trace_limit : ℕ
trace_limit = 100000

-- ---- a call that is refused by the first fault whose test holds, and otherwise has a result

abbrev pub unless_fault : {F X : Type 0} → Option F → X → Result X F
unless_fault (Some fault) x = Err fault
unless_fault None x = Ok x

abbrev pub unless : {F X : Type 0} → List (Bool × F) → X → Result X F
unless tests x = unless_fault (first_fault tests) x

-- ---- a new world

abbrev pub stopped_tap : Params → TapSpec → Tap
stopped_tap p spec = record {
  spec = spec;
  running = false;
  since = 0;
  amid = false;
  marks = [];
  station = new_station p spec.address spec.reply;
}

abbrev pub has_bad_address : Params → TapSpec → Bool
has_bad_address p spec = nat_lt (if spec.master then p.hsa else 126) spec.address

-- the first of some taps that has a bad address, the first of them at an index
abbrev pub first_bad_address : Params → ℕ → List TapSpec → Option ℕ
first_bad_address p tap [] = None
first_bad_address p tap (spec ∷ specs) = if has_bad_address p spec then Some tap else first_bad_address p (tap + 1) specs

abbrev pub new_faults : Params → List TapSpec → List (Bool × NewFault)
new_faults p specs =
    (length specs == 0, NoTaps)
    ∷ (nat_lt tap_limit (length specs), TooManyTaps)
    ∷ (is_some (first_bad_address p 0 specs), BadAddress (unwrap_or (first_bad_address p 0 specs) 0))
    ∷ []

abbrev pub new_world_within : ℕ → Params → List TapSpec → Result World NewFault
new_world_within limit p specs = unless (new_faults p specs) (record { params = p; now = 0; trace = []; taps = map (stopped_tap p) specs; limit = limit })

abbrev pub new_world : Params → List TapSpec → Result World NewFault
new_world p specs = new_world_within trace_limit p specs

-- a world is the new one of some taps, whatever number of entries its trace may have
abbrev pub IsNewWorld : Params → List TapSpec → World → Type 0
IsNewWorld p specs w = (limit : ℕ) × (new_world_within limit p specs ≡ Ok w)

-- ---- what is on the bus

-- an end after the clock
abbrev pub later_end : ℕ → ℕ → Option ℕ
later_end now m = if nat_lt now m then Some m else None

-- the next end of an entry, at its speaker or at the other taps
abbrev pub entry_next_end : ℕ → ℕ → Entry → Option ℕ
entry_next_end delay now (trace.Noise span) = later_end now span.end
entry_next_end delay now (Sent r) = earlier (later_end now r.end) (later_end now (reaches delay r).end)

-- the next end of some entries
abbrev pub next_end_of : ℕ → ℕ → List Entry → Option ℕ
next_end_of delay now [] = None
next_end_of delay now (e ∷ es) = earlier (entry_next_end delay now e) (next_end_of delay now es)

-- the next end on the bus
abbrev pub next_end : World → Option ℕ
next_end w = next_end_of w.params.ttd w.now w.trace

-- a telegram of the speaker that is still on the bus: its end has not reached the others
abbrev pub is_in_air_by : ℕ → ℕ → ℕ → Entry → Bool
is_in_air_by delay now speaker (trace.Noise span) = false
is_in_air_by delay now speaker (Sent r) = r.tap == speaker && nat_lt now (reaches delay r).end
