-- The plain data of a scenario, and its invariant.
use Rattle.std.specs.Prelude.{◌≡◌, ◌≤◌, length, map}
use Rattle.pb_taps.specs.Taps.{spec_of}
use Rattle.law_runs.specs.Laws.{AreFromOutside}
use Rattle.pb_scenario.specs.Steps.{steps_of}
use Rattle.pb_scenario.specs.Walks.{AreFrom}
use Rattle.pb_scenario.specs.Scenarios.{ScenarioView, names_of, until_limit}
use Rattle.pb_scenario.specs.declared.scenarios.Scenario.TheInside.{Inside}

abbrev pub scenario_view : Inside → ScenarioView
scenario_view s = record {
  scenario = record { params = s.params; taps = map spec_of s.taps.items; steps = steps_of s.steps.items; until = s.until };
  names = names_of s.names.keys;
}

pub record IsScenario (s : Inside) : Type 0 where
  pub named : length s.names.keys ≡ length s.taps.items
  pub order : AreFrom 0 (steps_of s.steps.items)
  pub outside : AreFromOutside (steps_of s.steps.items)
  pub end : s.until ≤ until_limit
