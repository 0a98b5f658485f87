-- What a limit of entries changes, and what the past does.
use Rattle.std.specs.Prelude.{ℕ, Bool, true, false, List, ◌++◌, Option, Some, None, Result, Ok, Err}
use Rattle.law_model.specs.Trace.{Entry}
use Rattle.law_model.specs.World.{World, Event, Fault, TraceFull}
use Rattle.law_model.specs.Behind.{behind}
use Rattle.law_runs.specs.Scenarios.{RunFault, New, At}
use Rattle.law_streams.specs.Streams.{Streamed}

-- ---- limits

abbrev pub is_full : Fault → Bool
is_full TraceFull = true
is_full fault = false

abbrev pub stops_full : RunFault → Bool
stops_full (New fault) = false
stops_full (At moment fault) = is_full fault

-- a run ends because the trace is full
abbrev pub ends_full : {A : Type 0} → Option (Result A RunFault) → Bool
ends_full None = false
ends_full (Some (Ok end)) = false
ends_full (Some (Err fault)) = stops_full fault

abbrev pub is_stopped_full : Option RunFault → Bool
is_stopped_full None = false
is_stopped_full (Some fault) = stops_full fault

abbrev pub stream_ends_full : Option Streamed → Bool
stream_ends_full None = false
stream_ends_full (Some stream) = is_stopped_full stream.fault

-- ---- a stream and its run

abbrev pub finished : List Entry → Option RunFault → Result (List Entry) RunFault
finished entries None = Ok entries
finished entries (Some fault) = Err fault

-- what a run has of a stream: all entries, or the fault alone
abbrev pub run_of_stream : Option Streamed → Option (Result (List Entry) RunFault)
run_of_stream None = None
run_of_stream (Some stream) = Some (finished stream.entries stream.fault)

-- ---- the past

-- the end of a run with entries in front of the trace
abbrev pub run_behind : List Entry → Option (Result (World × List Event) (ℕ × Fault)) → Option (Result (World × List Event) (ℕ × Fault))
run_behind old None = None
run_behind old (Some (Ok end)) = Some (Ok (behind old end.0, end.1))
run_behind old (Some (Err stop)) = Some (Err stop)

abbrev pub stream_behind : List Entry → Option Streamed → Option Streamed
stream_behind old None = None
stream_behind old (Some stream) = Some (record stream { entries = old ++ stream.entries })
