-- What the steps so far say has happened.
use Rattle.std.proofs.Common.{take}
use Rattle.pb_scenario.specs.Steps.{steps_of}
use Rattle.pb_scenario.specs.Plays.{Happened}
use Rattle.pb_scenario.specs.Said.{said_by}
use Rattle.pb_scenario.proofs.plays.play_steps.Given as goal

abbrev pub invariant-loop-step : goal.invariant-loop-step
invariant-loop-step g l = Happened l.now (g.S.Stage.view l.initial.stage) (said_by l.when (steps_of (take l.step-index l.steps))) (g.S.Stage.view l.stage)
