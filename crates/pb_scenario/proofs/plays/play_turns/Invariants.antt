-- The taps so far have turned that want to, and their first moment is known.
use Rattle.pb_scenario.specs.Walks.{plan_in}
use Rattle.pb_scenario.proofs.Moving.{HaveTurned}
use Rattle.pb_scenario.proofs.Soonest.{ComesSoFar, NoneBeforeOf}
use Rattle.pb_scenario.proofs.plays.play_turns.Given as goal

abbrev pub invariant-loop-tap : goal.invariant-loop-tap
invariant-loop-tap g l = record {
  turned : HaveTurned (plan_in l.walk) l.now l.walk.clock l.tap (g.S.Stage.view l.initial.stage) (g.S.Stage.view l.stage);
  first : ComesSoFar (plan_in l.walk) l.walk.clock l.walk.taps l.tap (g.S.Stage.view l.stage).world l.first;
  due : NoneBeforeOf l.tap l.soonest (g.S.Stage.view l.stage).world;
}
