-- When people are told something.
use Rattle.std.specs.Prelude.{ℕ, List}
use Rattle.pb_scenario.specs.Files.{Describes}
use Rattle.pb_scenario.specs.Repeats.{StreamView}
use Rattle.pb_scenario.specs.Scenarios.{ScenarioView}
use Rattle.pb_scenario.specs.StreamFiles as stream

-- the file describes some scenario
abbrev pub IsScenario : List ℕ → Type 0
IsScenario file = (s : ScenarioView) × Describes file s

-- the file describes some scenario whose steps may repeat
abbrev pub IsStreamScenario : List ℕ → Type 0
IsStreamScenario file = (s : StreamView) × stream.Describes file s
