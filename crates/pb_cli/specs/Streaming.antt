-- What a stream writes.
use Rattle.std.specs.Prelude.{◌≡◌, ◌<◌, ℕ, List, [], ◌++◌, Option, Some, None, is_some, unwrap_or, Result, Ok, Err}
use Rattle.std.specs.Io.KnownBytes.{Appends}
use Rattle.law_model.specs.Trace.{Entry}
use Rattle.law_runs.specs.Scenarios.{RunFault}
use Rattle.law_streams.specs.Streams.{Streamed, stream_limit, stream_within}
use Rattle.law_streams.specs.Limits.{stream_behind}
use Rattle.pb_scenario.specs.Fields.{Fault}
use Rattle.pb_scenario.specs.Repeats.{StreamView, unrolled}
use Rattle.pb_scenario.specs.Texts.{entries_text}
use Rattle.pb_stream.specs.Streams.{IsStreaming, names_of, rest_of}
use Rattle.pb_stream.specs.declared.streams.Stream.{Stream}
use Rattle.pb_texts.specs.Faults.{run_line, scenario_line}
use Rattle.pb_cli.specs.Statuses.{status_of}
use Rattle.pb_cli.specs.declared.faults.Status.{Status}
use Rattle.pb_cli.specs.declared.faults.Status.TheVariants.{Refused}

-- the line of a fault, if there is one
abbrev pub fault_text : Option RunFault → List ℕ
fault_text None = []
fault_text (Some fault) = run_line fault

-- the lines of the entries, and that of the fault that ends the run
abbrev pub stream_text : List (List ℕ) → Streamed → List ℕ
stream_text names stream = entries_text names stream.entries ++ fault_text stream.fault

-- a stream is written whole, and the status says whether a fault ends it
abbrev pub Writes : List (List ℕ) → Option Streamed → (before after : Option (List ℕ)) → Status → Type 0
Writes names o before after status =
    (stream : Streamed) × (o ≡ Some stream) × Appends before after (stream_text names stream) × (status ≡ status_of (is_some stream.fault))

-- the stream of a scenario up to a moment, within 10^12 entries
abbrev pub WritesScenario : StreamView → (until : ℕ) → (before after : Option (List ℕ)) → Status → Type 0
WritesScenario s until before after status = Writes s.once.names (stream_within stream_limit (unrolled until s)) before after status

-- that of a file's scenario, up to a moment or to its own end; or the line of the file's fault
abbrev pub WritesFile : Result StreamView (Option Fault) → Option ℕ → (before after : Option (List ℕ)) → Status → Type 0
WritesFile (Ok s) until before after status = WritesScenario s (unwrap_or until s.until) before after status
WritesFile (Err fault) until before after status = Appends before after (scenario_line fault) × (status ≡ Refused)

-- the entries whose lines were written were to come, and then what is still to come; the stream goes on
pub record WritesOn (old new : Stream) (before after : Option (List ℕ)) : Type 0 where
  pub entries : List Entry
  pub text : Appends before after (entries_text (names_of old) entries)
  pub rest : rest_of old ≡ stream_behind entries (rest_of new)
  pub ready : IsStreaming new
  pub names : names_of new ≡ names_of old
  pub until : new.walk.until ≡ old.walk.until
  pub later : old.walk.clock < new.walk.clock

-- a step of a stream: it goes on, or all that was to come was written
abbrev pub StepsOn : (old new : Stream) (before after : Option (List ℕ)) → Option Status → Type 0
StepsOn old new before after None = WritesOn old new before after
StepsOn old new before after (Some status) = Writes (names_of old) (rest_of old) before after status
