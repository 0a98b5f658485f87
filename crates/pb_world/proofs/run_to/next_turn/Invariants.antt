-- The first moment so far and that of the taps that are left is that of all.
use Rattle.std.proofs.Common.{◌≡◌}
use Rattle.std.specs.Prelude.{drop}
use Rattle.law_turn.specs.Stations.{earlier}
use Rattle.law_runs.specs.Runs.{next_turn}
use Rattle.law_runs.specs.Bus.{dues}
use Rattle.pb_world.specs.Buses.{world_of}
use Rattle.pb_world.specs.RunTo.{alone_until}
use Rattle.pb_world.proofs.run_to.next_turn.Given as goal

abbrev pub invariant-loop-tap : goal.invariant-loop-tap
invariant-loop-tap l =
    let due = dues (world_of l.on) in
    earlier l.first (next_turn (alone_until l.leg.until) l.leg.now l.tap (drop l.tap due)) ≡ next_turn (alone_until l.leg.until) l.leg.now 0 due
