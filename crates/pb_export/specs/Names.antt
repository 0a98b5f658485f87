-- The names and the addresses of a scenario's taps.
use Rattle.std.specs.Prelude.{ℕ, List, [], slice_index_or, slice_get, Option, Some, None}
use Rattle.law_model.specs.Medium.{TapSpec}
use Rattle.pb_scenario.specs.Scenarios.{ScenarioView}

-- nothing if there is no such tap
abbrev pub name_at : ScenarioView → ℕ → List ℕ
name_at s tap = slice_index_or s.names tap []

-- 127, which is no station's, if there is no such tap
abbrev pub address_in : Option TapSpec → ℕ
address_in (Some spec) = spec.address
address_in None = 127

abbrev pub address_at : ScenarioView → ℕ → ℕ
address_at s tap = address_in (slice_get s.scenario.taps tap)
