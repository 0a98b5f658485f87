-- One step more has happened, or stops all.
use Rattle.pb_scenario.proofs.Moving.{get-at, in-err, happened-none, ready-after, step-happened, step-stops}
use Rattle.pb_scenario.proofs.plays.play_steps.Goals as goal

pub returns-in_err-play_deed : goal.returns-in_err-play_deed
returns-in_err-play_deed g c =
    in-err _ _ c.from_residual.result c.in_err-play_deed.field-0.0 c.from_residual.ensures.0 c.from_residual.ensures.1
    (step-stops c.args.now c.args.when c.loop-step.step-index c.args.steps.now c.step-item.result (g.S.Stage.view c.args.stage.now) (g.S.Stage.view c.loop-step.stage) c.in_err-play_deed.field-0.0
    (get-at c.args.steps.now c.loop-step.step-index c.step-item.result c.loop-step-test.true c.step-item.is) c.loop-step.invariant c.in_err-play_deed.ensures)

pub loop-step-preserved : goal.loop-step-preserved
loop-step-preserved g c =
    step-happened c.args.now c.args.when c.loop-step.step-index c.args.steps.now c.step-item.result (g.S.Stage.view c.args.stage.now) (g.S.Stage.view c.loop-step.stage) (g.S.Stage.view c.play_deed.new.stage)
    (get-at c.args.steps.now c.loop-step.step-index c.step-item.result c.loop-step-test.true c.step-item.is) c.loop-step.invariant c.in_ok-play_deed.ensures

pub loop-step-init : goal.loop-step-init
loop-step-init g c = happened-none c.args.now (g.S.Stage.view c.args.stage.now)

pub play_deed-requires : goal.play_deed-requires
play_deed-requires g c = ready-after c.args.now (g.S.Stage.view c.args.stage.now) (g.S.Stage.view c.loop-step.stage) _ c.loop-step.invariant c.requires
