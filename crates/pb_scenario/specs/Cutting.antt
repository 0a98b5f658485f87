-- Steps of the code, cut at a moment.
use Rattle.std.specs.Prelude.{ℕ, List}
use Rattle.pb_scenario.specs.declared.deeds.Step.{Step}
use Rattle.pb_scenario.specs.Steps.{steps_of}
use Rattle.pb_scenario.specs.Walks.{Advances}

abbrev pub CutsAt : ℕ → List Step → List Step → List Step → List ℕ → List ℕ → Type 0
CutsAt at later today rest held next = Advances (steps_of later) at (steps_of today) (steps_of rest) held next
