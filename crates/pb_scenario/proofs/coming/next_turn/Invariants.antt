-- The first moment so far and that of the taps that are left is that of all.
use Rattle.std.proofs.Common.{◌≡◌, drop}
use Rattle.law_turn.specs.Stations.{earlier}
use Rattle.pb_scenario.specs.Coming.{next_turn_in}
use Rattle.pb_scenario.proofs.coming.next_turn.Given as goal

abbrev pub invariant-loop-tap : goal.invariant-loop-tap
invariant-loop-tap l = earlier l.first (next_turn_in l.held l.now l.tap (drop l.tap l.dues)) ≡ next_turn_in l.held l.now 0 l.dues
