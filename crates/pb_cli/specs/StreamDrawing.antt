-- What the picture of a run writes whose steps may repeat.
use Rattle.std.specs.Prelude.{◌≡◌, ℕ, min, List, [], Option, Some, None, Result, Ok, Err}
use Rattle.std.specs.Io.KnownBytes.{Appends}
use Rattle.std.proofs.Math.Nat.{le_trans, min-le_left}
use Rattle.law_model.specs.Trace.{Entry}
use Rattle.law_runs.specs.Judging.{StandsFrom}
use Rattle.law_runs.specs.Scenarios.{RunFault, New, At, trace_of}
use Rattle.law_streams.specs.Streams.{Streamed, stream_limit, stream_within}
use Rattle.pb_scenario.specs.Fields.{Fault}
use Rattle.pb_scenario.specs.Repeats.{StreamView, unrolled}
use Rattle.pb_scenario.specs.Scenarios.{ScenarioView}
use Rattle.pb_export.specs.Svg.{stream_svg_text, svg_text}
use Rattle.pb_export.specs.declared.options.Window.{Window}
use Rattle.pb_stream.specs.Streams.{StillHas, kept_of, rest_of}
use Rattle.pb_stream.specs.declared.streams.Stream.{Stream}
use Rattle.pb_texts.specs.Faults.{run_line, scenario_line}
use Rattle.pb_texts.specs.Files.{scenario_of, stream_scenario_of}
use Rattle.pb_cli.specs.Settling.{IsOfRun, Says}
use Rattle.pb_cli.specs.declared.faults.Status.TheVariants.{Refused}
use Rattle.pb_cli.specs.declared.settled.Settled.{Settled}
use Rattle.pb_cli.specs.declared.stream_drawing.Ending.{Ending}

-- ---- a run on a bus

-- what is to come is in order of begin
abbrev pub AreInOrder : Option Streamed → Type 0
AreInOrder None = Unit {0}
AreInOrder (Some stream) = StandsFrom 0 stream.entries

-- when an event is refused, if one is
abbrev pub moment_of : Option RunFault → Option ℕ
moment_of None = None
moment_of (Some (At clock fault)) = Some clock
moment_of (Some (New fault)) = None

-- a window up to that moment
abbrev pub up_to : Window → Option ℕ → Window
up_to w None = w
up_to w (Some moment) = record { from = w.from; until = min w.until moment; from_fits = w.from_fits; until_fits = le_trans (min-le_left w.until moment) w.until_fits }

-- what was to come are the entries that it has, and then the run ends
abbrev pub HasEnded : (old new : Stream) → Ending → Type 0
HasEnded old new ended =
    (fault : Option RunFault) × (rest_of old ≡ Some (record { entries = kept_of new; fault = fault })) × IsOfRun fault × Says ended.settled fault
    × (ended.refused_at ≡ moment_of fault)

-- an instant is played, and that ends the run or not
abbrev pub Plays : (old new : Stream) → Option Ending → Type 0
Plays old new None = StillHas old new
Plays old new (Some ended) = HasEnded old new ended

-- the picture of what was to come is written
abbrev pub DrawsRun : Window → StreamView → Option Streamed → (before after : Option (List ℕ)) → Settled → Type 0
DrawsRun w s o before after ended =
    (stream : Streamed) × (o ≡ Some stream) × Appends before after (stream_svg_text (up_to w (moment_of stream.fault)) s stream.entries)
    × IsOfRun stream.fault × Says ended stream.fault

-- ---- a scenario and a file

-- the picture of the entries, up to a refused event; or where there is no world the line of that fault
abbrev pub drawn_of : Window → StreamView → List Entry → Option RunFault → List ℕ
drawn_of w s entries None = stream_svg_text w s entries
drawn_of w s entries (Some (At clock fault)) = stream_svg_text (up_to w (Some clock)) s entries
drawn_of w s entries (Some (New fault)) = run_line (New fault)

-- the picture of a scenario's run within 10^12 entries is written
abbrev pub DrawsScenario : Window → StreamView → (before after : Option (List ℕ)) → Settled → Type 0
DrawsScenario w s before after ended =
    (stream : Streamed) × (stream_within stream_limit (unrolled s.until s) ≡ Some stream)
    × Appends before after (drawn_of w s stream.entries stream.fault) × Says ended stream.fault

-- that of a file's scenario; or the line of the file's fault
abbrev pub DrawsFile : Window → Result StreamView (Option Fault) → (before after : Option (List ℕ)) → Settled → Type 0
DrawsFile w (Ok s) before after ended = DrawsScenario w s before after ended
DrawsFile w (Err fault) before after ended = Appends before after (scenario_line fault) × (ended.status ≡ Refused) × (ended.line.items ≡ [])

-- ---- beside the picture of a file without repeats

-- where the run of a file of version 1 or 2 ends, it is the picture of its trace
abbrev pub DrawsTheSame : Type 0
DrawsTheSame = (w : Window) (file : List ℕ) (s : ScenarioView) (entries : List Entry) (before after : Option (List ℕ)) (ended : Settled)
    → scenario_of file ≡ Ok s → trace_of s.scenario ≡ Some (Ok entries) → DrawsFile w (stream_scenario_of file) before after ended
    → Appends before after (svg_text w s entries) × Says ended None
