-- The turns that are left are those that are left of all.
use Rattle.std.proofs.Common.{◌≡◌, List}
use Rattle.law_model.specs.Trace.{Entry}
use Rattle.law_runs.specs.Premises.{Course}
use Rattle.pb_scenario.specs.Walks.{plan_in}
use Rattle.pb_stream.specs.Stages.{GoesFrom, taps_of}
use Rattle.pb_world.specs.Buses.{world_of}
use Rattle.pb_scenario.proofs.Soonest.{ComesSoFar}
use Rattle.pb_stream.proofs.Playing.{AreLeft}
use Rattle.pb_stream.proofs.plays.play_turns.Given as goal

abbrev pub invariant-loop-tap : goal.invariant-loop-tap
invariant-loop-tap g l = record {
  first : (old : List Entry) (c : Course) → GoesFrom (g.S.Stage.view l.initial.stage) old c
      → ComesSoFar (plan_in l.walk) l.walk.clock l.walk.taps l.tap (world_of (g.S.Stage.view l.stage).bus) l.first;
  left : (old : List Entry) (c : Course) → GoesFrom (g.S.Stage.view l.initial.stage) old c → AreLeft (plan_in l.walk) l.walk.clock l.walk.taps l.tap old c (g.S.Stage.view l.stage);
  ready : (g.S.Stage.view l.stage).ready;
  taps : taps_of (g.S.Stage.view l.stage) ≡ taps_of (g.S.Stage.view l.initial.stage);
}
