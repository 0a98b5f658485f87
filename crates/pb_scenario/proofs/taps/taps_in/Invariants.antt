-- The taps so far stand before those of the rest.
use Rattle.std.proofs.Common.{◌≡◌, [], ◌++◌, drop, length, Ok}
use Rattle.toml.specs.View.{items_view}
use Rattle.pb_scenario.specs.Scenarios.{names_of}
use Rattle.pb_scenario.specs.Fields.{and_then}
use Rattle.pb_scenario.specs.Files.{taps_from}
use Rattle.pb_scenario.specs.Tables.{taps_of}
use Rattle.pb_scenario.proofs.taps.taps_in.Given as goal

abbrev pub invariant-loop-tap : goal.invariant-loop-tap
invariant-loop-tap l = record {
  taps : taps_from l.version [] 0 (items_view l.items)
      ≡ and_then (taps_from l.version (names_of l.taps.names.keys) l.tap (items_view (drop l.tap l.items))) (λ ts. Ok (taps_of l.taps ++ ts));
  named : length l.taps.names.keys ≡ length l.taps.specs.items;
}
