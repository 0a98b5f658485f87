-- The run goes on as it began.
use Rattle.std.proofs.Common.{◌≡◌, ◌-◌, ◌≤◌, length}
use Rattle.pb_scenario.specs.Scenarios.{walk_of}
use Rattle.pb_scenario.proofs.PlayedInstants.{IsRest}
use Rattle.pb_scenario.proofs.plays.play.Given as goal

abbrev pub decreases-loop-walk : goal.decreases-loop-walk
decreases-loop-walk g l = l.walk.until - l.walk.clock

abbrev pub invariant-loop-walk : goal.invariant-loop-walk
invariant-loop-walk g l = record {
  walk : l.walk ≡ record (walk_of l.scenario) { clock = l.walk.clock };
  in_time : l.walk.clock ≤ l.walk.until;
  taps : length (g.S.Stage.view l.stage).world.taps ≡ l.walk.taps;
  rest : IsRest l.scenario (g.S.Stage.view l.initial.stage).world l.walk (g.S.Stage.view l.stage);
}
