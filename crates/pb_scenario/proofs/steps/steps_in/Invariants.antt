-- The steps so far stand before those of the rest.
use Rattle.std.proofs.Common.{◌≡◌, ◌++◌, drop, Ok}
use Rattle.toml.specs.View.{items_view}
use Rattle.pb_scenario.specs.Steps.{steps_of}
use Rattle.pb_scenario.specs.Scenarios.{names_of}
use Rattle.pb_scenario.specs.Fields.{and_then}
use Rattle.pb_scenario.specs.Files.{steps_from}
use Rattle.pb_scenario.proofs.steps.steps_in.Given as goal

abbrev pub invariant-loop-place : goal.invariant-loop-place
invariant-loop-place l =
    steps_from (names_of l.names.keys) 0 0 (items_view l.items)
    ≡ and_then (steps_from (names_of l.names.keys) l.before l.place (items_view (drop l.place l.items))) (λ ss. Ok (steps_of l.steps.items ++ ss))
