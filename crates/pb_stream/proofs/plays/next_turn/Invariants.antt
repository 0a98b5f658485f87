-- The first moment so far and that of the taps that are left is that of all.
use Rattle.std.proofs.Common.{◌≡◌, drop}
use Rattle.law_turn.specs.Stations.{earlier}
use Rattle.law_runs.specs.Bus.{dues}
use Rattle.law_runs.specs.Runs.{next_turn}
use Rattle.pb_world.specs.Buses.{world_of}
use Rattle.pb_scenario.specs.Walks.{plan_in}
use Rattle.pb_stream.proofs.plays.next_turn.Given as goal

abbrev pub invariant-loop-tap : goal.invariant-loop-tap
invariant-loop-tap g l =
    let due = dues (world_of (g.S.Stage.view l.stage).bus) in
    earlier l.first (next_turn (plan_in l.walk) l.walk.clock l.tap (drop l.tap due)) ≡ next_turn (plan_in l.walk) l.walk.clock 0 due
