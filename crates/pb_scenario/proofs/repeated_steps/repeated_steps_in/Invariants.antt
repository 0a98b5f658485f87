-- The steps so far stand before those of the rest.
use Rattle.std.proofs.Common.{◌≡◌, ◌++◌, drop, length, Ok}
use Rattle.toml.specs.View.{items_view}
use Rattle.pb_scenario.specs.Fields.{and_then}
use Rattle.pb_scenario.specs.RepeatedTables.{all_of}
use Rattle.pb_scenario.specs.Scenarios.{names_of}
use Rattle.pb_scenario.specs.StreamFiles.{repeated_from}
use Rattle.pb_scenario.proofs.repeated_steps.repeated_steps_in.Given as goal

abbrev pub invariant-loop-place : goal.invariant-loop-place
invariant-loop-place l = record {
  steps : repeated_from (names_of l.names.keys) 0 0 (items_view l.items)
      ≡ and_then (repeated_from (names_of l.names.keys) l.before l.place (items_view (drop l.place l.items))) (λ ss. Ok (all_of l.all ++ ss));
  paired : length l.all.steps.items ≡ length l.all.repeats.items;
}
