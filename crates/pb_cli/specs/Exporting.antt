-- What the export of a run writes entry by entry.
use Rattle.std.specs.Prelude.{◌≡◌, ◌<◌, ℕ, List, [], ◌++◌, Option, Some, None, Result, Ok, Err}
use Rattle.std.specs.Io.KnownBytes.{Appends}
use Rattle.law_model.specs.Trace.{Entry}
use Rattle.law_runs.specs.Scenarios.{RunFault, New, At, trace_of}
use Rattle.law_streams.specs.Streams.{Streamed, stream_limit, stream_within}
use Rattle.law_streams.specs.Limits.{stream_behind}
use Rattle.pb_scenario.specs.Fields.{Fault}
use Rattle.pb_scenario.specs.Repeats.{StreamView, unrolled}
use Rattle.pb_scenario.specs.Scenarios.{ScenarioView}
use Rattle.pb_export.specs.Exports.{bytes_of}
use Rattle.pb_export.specs.Streamed.{entries_of, streamed_bytes, streamed_of, unwritten}
use Rattle.pb_export.specs.declared.options.Export.{Export}
use Rattle.pb_export.specs.declared.options.StreamExport.{StreamExport}
use Rattle.pb_export.specs.declared.streamed.StreamExporter.{StreamExporter}
use Rattle.pb_stream.specs.Streams.{IsStreaming, rest_of}
use Rattle.pb_stream.specs.declared.streams.Stream.{Stream}
use Rattle.pb_texts.specs.Faults.{run_line, scenario_line}
use Rattle.pb_texts.specs.Files.{scenario_of, stream_scenario_of}
use Rattle.pb_cli.specs.Settling.{IsOfRun, Says}
use Rattle.pb_cli.specs.declared.faults.Status.TheVariants.{Refused}
use Rattle.pb_cli.specs.declared.settled.Settled.{Settled}

-- ---- what is written

-- what is written: the export of the entries, or where there is no world the line of that fault
abbrev pub written_of : StreamExport → StreamView → List Entry → Option RunFault → List ℕ
written_of x s entries None = streamed_bytes x s entries
written_of x s entries (Some (At clock fault)) = streamed_bytes x s entries
written_of x s entries (Some (New fault)) = run_line (New fault)

-- ---- a run on a bus

-- these entries are still to come, and then the run ends
abbrev pub IsToCome : Stream → List Entry → Type 0
IsToCome stream es = (fault : Option RunFault) × (rest_of stream ≡ Some (record { entries = es; fault = fault }))

-- entries are written: they were to come, and then what is still to come; the stream and the export go on
pub record AppendsOn (s : StreamView) (old new : Stream) (x y : StreamExporter) (before after : List ℕ) : Type 0 where
  pub entries : List Entry
  pub text : List ℕ
  pub bytes : after ≡ before ++ text
  pub export : y.export ≡ x.export
  pub written : (later : List Entry) → IsToCome new later → text ++ unwritten y s later ≡ unwritten x s (entries ++ later)
  pub rest : rest_of old ≡ stream_behind entries (rest_of new)
  pub ready : IsStreaming new
  pub until : new.walk.until ≡ old.walk.until
  pub later : old.walk.clock < new.walk.clock

-- all that was to come is appended
abbrev pub AppendsRest : StreamView → Stream → StreamExporter → (before after : List ℕ) → Settled → Type 0
AppendsRest s old x before after ended =
    (stream : Streamed) × (rest_of old ≡ Some stream) × (after ≡ before ++ unwritten x s stream.entries) × IsOfRun stream.fault
    × Says ended stream.fault

-- an instant is played, and that ends the stream or not
abbrev pub PlaysOn : StreamView → (old new : Stream) → (x y : StreamExporter) → (before after : List ℕ) → Option Settled → Type 0
PlaysOn s old new x y before after None = AppendsOn s old new x y before after
PlaysOn s old new x y before after (Some ended) = AppendsRest s old x before after ended

-- all that was to come is written
abbrev pub ExportsRun : StreamExport → StreamView → Option Streamed → (before after : Option (List ℕ)) → Settled → Type 0
ExportsRun x s o before after ended =
    (stream : Streamed) × (o ≡ Some stream) × Appends before after (entries_of x s stream.entries) × IsOfRun stream.fault
    × Says ended stream.fault

-- ---- a scenario and a file

-- the export of a scenario's run within 10^12 entries is written whole
abbrev pub ExportsScenario : StreamExport → StreamView → (before after : Option (List ℕ)) → Settled → Type 0
ExportsScenario x s before after ended =
    (stream : Streamed) × (stream_within stream_limit (unrolled s.until s) ≡ Some stream)
    × Appends before after (written_of x s stream.entries stream.fault) × Says ended stream.fault

-- that of a file's scenario; or the line of the file's fault
abbrev pub ExportsFile : StreamExport → Result StreamView (Option Fault) → (before after : Option (List ℕ)) → Settled → Type 0
ExportsFile x (Ok s) before after ended = ExportsScenario x s before after ended
ExportsFile x (Err fault) before after ended = Appends before after (scenario_line fault) × (ended.status ≡ Refused) × (ended.line.items ≡ [])

-- ---- beside the export of the whole trace

-- where the run of a file that describes a scenario ends, the same is written as of its whole trace
abbrev pub SettlesToTheSame : Type 0
SettlesToTheSame = (x : Export) (y : StreamExport) (file : List ℕ) (s : ScenarioView) (entries : List Entry) (before after : Option (List ℕ)) (ended : Settled)
    → streamed_of x ≡ Some y → scenario_of file ≡ Ok s → trace_of s.scenario ≡ Some (Ok entries) → ExportsFile y (stream_scenario_of file) before after ended
    → Appends before after (bytes_of x s entries) × Says ended None
