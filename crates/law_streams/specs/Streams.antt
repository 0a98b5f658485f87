-- The run of a scenario within a number of entries, and what a stream of it has.
use Rattle.std.specs.Prelude.{ℕ, ◌+◌, List, [], Option, Some, None, Result, Ok, Err}
use Rattle.law_model.specs.Trace.{Entry}
use Rattle.law_model.specs.World.{World, Event, Turn, Pass, Reply, Fault, NewFault, new_world_within}
use Rattle.law_model.specs.Step.{step}
use Rattle.law_runs.specs.Runs.{Machine, Plan, run}
use Rattle.law_runs.specs.Bus.{dues, next_change}
use Rattle.law_runs.specs.Scenarios.{Scenario, RunFault, New, At, plan_of, run_from, with_end}

-- ---- the run on a bus whose trace may have this many entries, and its trace

abbrev pub run_within : ℕ → Scenario → Option (Result (World × List Event) RunFault)
run_within limit s = run_from s (new_world_within limit s.params s.taps)

abbrev pub trace_within : ℕ → Scenario → Option (Result (List Entry) RunFault)
trace_within limit s = with_end (λ end. end.0.trace) (run_within limit s)

-- ---- a bus that says in which world it refuses an event

abbrev pub in_world : World → Result (World × Reply) Fault → Result (World × Reply) (World × Fault)
in_world w (Ok next) = Ok next
in_world w (Err fault) = Err (w, fault)

abbrev pub telling_bus : Machine World Event Reply (World × Fault)
telling_bus = record { step = λ w e. in_world w (step w e); turn = Turn; pass = Pass; due = dues; change = next_change }

-- ---- a stream

-- the entries up to the end of a run or up to the event that is refused, and the fault, if there is one
pub record Streamed : Type 0 where
  pub entries : List Entry
  pub fault : Option RunFault

abbrev pub streamed_of : Option (Result (World × List Event) (ℕ × (World × Fault))) → Option Streamed
streamed_of None = None
streamed_of (Some (Ok end)) = Some (record { entries = end.0.trace; fault = None })
streamed_of (Some (Err stop)) = Some (record { entries = stop.1.0.trace; fault = Some (At stop.0 stop.1.1) })

abbrev pub stream_from : Scenario → Result World NewFault → Option Streamed
stream_from s (Ok w) = streamed_of (run (s.until + 1) telling_bus (plan_of s.steps s.until) 0 w)
stream_from s (Err fault) = Some (record { entries = []; fault = Some (New fault) })

abbrev pub stream_within : ℕ → Scenario → Option Streamed
stream_within limit s = stream_from s (new_world_within limit s.params s.taps)

-- what a stream has from a world on: it goes on at a moment, for this many instants, or has ended
abbrev pub stream_on : Plan Event → ℕ → Option ℕ → World → Option Streamed
stream_on p left None w = Some (record { entries = w.trace; fault = None })
stream_on p left (Some moment) w = streamed_of (run left telling_bus p moment w)

-- how many entries a stream may have: at least as many as moments
abbrev pub stream_limit : ℕ
stream_limit = 1000000000000
