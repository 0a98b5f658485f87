-- How a capture ends.
use Rattle.std.specs.Prelude.{◌≡◌, ◌<◌, ◌⊎◌, ℕ, List, [], Option, Some, None, Result, Ok, Err}
use Rattle.std.specs.Io.KnownBytes.{Appends}
use Rattle.law_model.specs.Trace.{Entry}
use Rattle.law_runs.specs.Scenarios.{RunFault, New, At}
use Rattle.law_streams.specs.Streams.{Streamed, stream_limit, stream_within}
use Rattle.law_streams.specs.Limits.{stream_behind}
use Rattle.pb_scenario.specs.Fields.{Fault}
use Rattle.pb_scenario.specs.Repeats.{StreamView, unrolled}
use Rattle.pb_stream.specs.Streams.{IsStreaming, rest_of}
use Rattle.pb_stream.specs.declared.streams.Stream.{Stream}
use Rattle.pb_texts.specs.Captures.{IsNoTaps, IsTaps, no_tap_line}
use Rattle.pb_texts.specs.Faults.{run_line, scenario_line}
use Rattle.pb_cli.specs.Settling.{IsOfRun, Says}
use Rattle.pb_cli.specs.declared.faults.Status.TheVariants.{Refused}
use Rattle.pb_cli.specs.declared.settled.Settled.{Settled}

-- ---- a run

-- what is written of a run: some lines, or where there is no world the line of that fault
abbrev pub IsCaptureOf : Option RunFault → (lines : List ℕ) → Type 0
IsCaptureOf None lines = Unit {0}
IsCaptureOf (Some (At clock fault)) lines = Unit {0}
IsCaptureOf (Some (New fault)) lines = lines ≡ run_line (New fault)

abbrev pub Captures : Option Streamed → (before after : Option (List ℕ)) → Settled → Type 0
Captures o before after ended =
    (stream : Streamed) × (o ≡ Some stream) × ((lines : List ℕ) × Appends before after lines × IsCaptureOf stream.fault lines)
    × Says ended stream.fault

-- an instant is played, and what is over may be let go: what was to come is this, and then what is still to come
pub record CapturesOn (old new : Stream) : Type 0 where
  pub gone : List Entry
  pub rest : rest_of old ≡ stream_behind gone (rest_of new)
  pub ready : IsStreaming new
  pub until : new.walk.until ≡ old.walk.until
  pub later : old.walk.clock < new.walk.clock

-- the stream has ended
abbrev pub CapturesRest : Stream → Settled → Type 0
CapturesRest old ended = (stream : Streamed) × (rest_of old ≡ Some stream) × IsOfRun stream.fault × Says ended stream.fault

abbrev pub PlaysOn : (old new : Stream) → Option Settled → Type 0
PlaysOn old new None = CapturesOn old new
PlaysOn old new (Some ended) = CapturesRest old ended

-- ---- a file

-- the capture of a scenario's run within 10^12 entries, up to its end or up to the event that is refused
abbrev pub CapturesScenario : StreamView → (before after : Option (List ℕ)) → Settled → Type 0
CapturesScenario s before after ended = Captures (stream_within stream_limit (unrolled s.until s)) before after ended

-- no tap has the name: nothing is written, and a line says so
abbrev pub FindsNoTap : (name : List ℕ) → (before after : Option (List ℕ)) → Settled → Type 0
FindsNoTap name before after ended = (after ≡ before) × (ended.status ≡ Refused) × (ended.line.items ≡ no_tap_line name)

-- that of a tap, if a tap has the name that is asked for, or of a listener that is none
abbrev pub CapturesTap : (name : Option (List ℕ)) → StreamView → (before after : Option (List ℕ)) → Settled → Type 0
CapturesTap None s before after ended = CapturesScenario s before after ended
CapturesTap (Some name) s before after ended =
    (IsTaps s.once.names name × CapturesScenario s before after ended) ⊎ (IsNoTaps s.once.names name × FindsNoTap name before after ended)

-- a line is written in its place
abbrev pub Refuses : (line : List ℕ) → (before after : Option (List ℕ)) → Settled → Type 0
Refuses line before after ended = Appends before after line × (ended.status ≡ Refused) × (ended.line.items ≡ [])

-- of a file's scenario; or the line of the file's fault
abbrev pub CapturesFile : Result StreamView (Option Fault) → (name : Option (List ℕ)) → (before after : Option (List ℕ)) → Settled → Type 0
CapturesFile (Ok s) name before after ended = CapturesTap name s before after ended
CapturesFile (Err fault) name before after ended = Refuses (scenario_line fault) before after ended
