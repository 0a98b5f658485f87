-- A stream: what is still to come of it, what a call appends, and how much is kept.
use Rattle.std.specs.Prelude.{◌≡◌, ℕ, ◌+◌, ◌<◌, ◌≤◌, List, ◌++◌, length, max, Option, Some, None, IfSome}
use Rattle.law_model.specs.Trace.{Entry}
use Rattle.law_model.specs.World.{Event}
use Rattle.law_runs.specs.Runs.{run}
use Rattle.law_runs.specs.Scenarios.{At}
use Rattle.law_streams.specs.Streams.{Streamed, telling_bus, streamed_of}
use Rattle.law_streams.specs.Limits.{stream_behind}
use Rattle.pb_medium.specs.LettingGo.{past_of}
use Rattle.pb_medium.specs.Traces.{entries_of, limit_of, over_of, recent_of}
use Rattle.pb_medium.specs.declared.traces.Trace.{Trace}
use Rattle.pb_world.specs.Buses.{world_of, IsKept}
use Rattle.pb_world.specs.LettingGo.{LetsPastGo}
use Rattle.pb_world.specs.declared.buses.Bus.{Bus}
use Rattle.pb_scenario.specs.declared.deeds.When.{When}
use Rattle.pb_scenario.specs.declared.deeds.When.TheVariants.{AfterTurns, BeforeTurns}
use Rattle.pb_scenario.specs.Faults.{model_fault}
use Rattle.pb_scenario.specs.Texts.{entries_text}
use Rattle.pb_scenario.specs.Walks.{plan_in}
use Rattle.pb_stream.specs.declared.streams.Progress.{Progress}
use Rattle.pb_stream.specs.declared.streams.Progress.TheVariants.{Goes, Ended, Refused}
use Rattle.pb_stream.specs.declared.streams.Stream.{Stream}

-- the last moment until which time may pass in a stream
abbrev pub stream_end : ℕ
stream_end = 1000000000000

abbrev pub names_of : Stream → List (List ℕ)
names_of s = s.scenario.now.once.names

abbrev pub clock_of : Stream → ℕ
clock_of s = s.walk.clock

-- what is still to come: what the run has from the walk's moment on
abbrev pub rest_of : Stream → Option Streamed
rest_of s = streamed_of (run (s.walk.until + 1) telling_bus (plan_in s.walk) s.walk.clock (world_of s.bus))

-- the events that its steps trigger at the next instant, before the turns or after them
abbrev pub said_at : When → Stream → List Event
said_at BeforeTurns s = (plan_in s.walk).early s.walk.clock
said_at AfterTurns s = (plan_in s.walk).late s.walk.clock

-- the invariant of its fields
pub record IsStreaming (s : Stream) : Type 0 where
  pub kept : IsKept s.bus
  pub in_time : s.walk.clock ≤ s.walk.until
  pub taps : length (world_of s.bus).taps ≡ s.walk.taps

-- ---- an instant whose entries are kept, and letting go

-- all entries that it has, and those of them that may go
abbrev pub kept_of : Stream → List Entry
kept_of s = entries_of s.bus.trace

abbrev pub past_in : Stream → List Entry
past_in s = past_of s.bus.trace

-- what was to come is still to come, and the stream goes on
pub record StillHas (old new : Stream) : Type 0 where
  pub rest : rest_of old ≡ rest_of new
  pub ready : IsStreaming new
  pub until : new.walk.until ≡ old.walk.until
  pub later : old.walk.clock < new.walk.clock

-- An instant was played. Where the stream has ended, what was to come are the entries that it has, and the fault that ends
-- it.
abbrev pub HasPlayed : Progress → Stream → Stream → Type 0
HasPlayed Goes old new = StillHas old new
HasPlayed Ended old new = rest_of old ≡ Some (record { entries = kept_of new; fault = None })
HasPlayed (Refused clock fault) old new =
    IfSome (model_fault fault) (λ f. rest_of old ≡ Some (record { entries = kept_of new; fault = Some (At clock f) }))

-- entries are let go: what was to come are these, and then what is still to come
pub record LetsGo (gone : List Entry) (old new : Stream) : Type 0 where
  pub rest : rest_of old ≡ stream_behind gone (rest_of new)
  pub ready : IsStreaming new
  pub names : names_of new ≡ names_of old
  pub walk : new.walk ≡ old.walk

-- ---- what is appended

-- the lines of some entries
abbrev pub Appends : List (List ℕ) → List Entry → List ℕ → List ℕ → Type 0
Appends names entries before after = after ≡ before ++ entries_text names entries

-- some entries are handed on and let go, or none
abbrev pub HandsOn : List (List ℕ) → Bus → List ℕ → Bus → List ℕ → Type 0
HandsOn names old before new after = (entries : List Entry) × Appends names entries before after × LetsPastGo entries old new

-- it goes on: what was to come are the entries whose lines were appended, and then what is still to come
pub record GoesOn (old new : Stream) (before after : List ℕ) : Type 0 where
  pub entries : List Entry
  pub text : Appends (names_of old) entries before after
  pub rest : rest_of old ≡ stream_behind entries (rest_of new)
  pub ready : IsStreaming new
  pub names : names_of new ≡ names_of old
  pub until : new.walk.until ≡ old.walk.until
  pub later : old.walk.clock < new.walk.clock

abbrev pub Tells : Progress → Stream → Stream → List ℕ → List ℕ → Type 0
Tells Goes old new before after = GoesOn old new before after
Tells Ended old new before after =
    (entries : List Entry) × Appends (names_of old) entries before after × (rest_of old ≡ Some (record { entries = entries; fault = None }))
Tells (Refused clock fault) old new before after =
    (entries : List Entry) × Appends (names_of old) entries before after
    × IfSome (model_fault fault) (λ f. rest_of old ≡ Some (record { entries = entries; fault = Some (At clock f) }))

-- ---- what is kept

-- A trace has fewer than a block of entries beside those that are not over; a block is at least one entry. Where it is all
-- but full, and fewer may come than are over, nothing more is let go.
abbrev pub IsShort : (block : ℕ) → Trace → Type 0
IsShort block t = over_of t ≤ limit_of t → length (entries_of t) < length (recent_of t) + max block 1

-- a stream that goes on keeps no more
abbrev pub KeepsFew : (block : ℕ) → Progress → Stream → Type 0
KeepsFew block Goes s = IsShort block s.bus.trace
KeepsFew block Ended s = Unit {0}
KeepsFew block (Refused clock fault) s = Unit {0}
