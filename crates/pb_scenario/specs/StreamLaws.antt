-- The statements of the laws of files for streams.
use Rattle.std.specs.Prelude.{◌≡◌, ◌≢◌, ◌<◌, ◌+◌, ◌*◌, ℕ, length, slice_get, Some, Ok, Err}
use Rattle.toml.specs.Data.{Members}
use Rattle.law_runs.specs.Scenarios.{Deed}
use Rattle.pb_scenario.specs.Fields.{Fault, BadVersion}
use Rattle.pb_scenario.specs.Files.{scenario_in}
use Rattle.pb_scenario.specs.Repeats.{series, unrepeated, unrolled}
use Rattle.pb_scenario.specs.Scenarios.{ScenarioView}
use Rattle.pb_scenario.specs.StreamFiles.{stream_in}

-- what describes a scenario whose steps happen once describes the same for a stream
abbrev pub ReadsTheSame : Type 0
ReadsTheSame = (top : Members) (s : ScenarioView) → scenario_in top ≡ Ok s → stream_in top ≡ Ok (unrepeated s)

-- and has the same fault, but for its version
abbrev pub RefusesTheSame : Type 0
RefusesTheSame = (top : Members) (f : Fault) → scenario_in top ≡ Err f → f ≢ BadVersion → stream_in top ≡ Err f

-- up to whatever moment, its steps are those of the scenario
abbrev pub UnrollsTheSame : Type 0
UnrollsTheSame = (s : ScenarioView) (until : ℕ) → unrolled until (unrepeated s) ≡ record s.scenario { until = until }

-- the k-th repetition of a step comes k times later, and there are as many as it says
abbrev pub HappensAfterEach : Type 0
HappensAfterEach = (at every times k : ℕ) (deed : Deed) → k < times
    → (slice_get (series at every times deed) k ≡ Some (record { at = at + k * every; deed = deed })) × (length (series at every times deed) ≡ times)
