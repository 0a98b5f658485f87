-- A scenario with the names of its taps.
use Rattle.std.specs.Prelude.{ℕ, List, length, map, String}
use Rattle.pb_timers.specs.Timers.{Params}
use Rattle.pb_scenario.specs.Walks.{WalkView, new_walk}
use Rattle.std.specs.String.{string_bytes}
use Rattle.law_runs.specs.Scenarios as runs

pub record ScenarioView : Type 0 where
  pub scenario : runs.Scenario
  -- the name of each tap, in bytes
  pub names : List (List ℕ)

-- a walk at 0 through its steps
abbrev pub walk_of : ScenarioView → WalkView
walk_of s = new_walk s.scenario.steps (length s.scenario.taps) s.scenario.until

-- the last moment until which a scenario's time may pass
abbrev pub until_limit : ℕ
until_limit = 10000000

abbrev pub names_of : {Z : Type 0} → List (String Z) → List (List ℕ)
names_of names = map string_bytes names

-- parameters with another cable delay
abbrev pub params_with : Params → ℕ → Params
params_with p ttd = record p { ttd = ttd }

-- a scenario on a bus with another cable delay
abbrev pub delayed : ScenarioView → ℕ → ScenarioView
delayed s ttd = record s { scenario = record s.scenario { params = params_with s.scenario.params ttd } }
