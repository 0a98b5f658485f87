-- One step more is read.
use Rattle.pb_scenario.proofs.Joined.{reads-step, get-at}
use Rattle.pb_scenario.proofs.reading.read_steps.Goals as goal

pub loop-step-preserved : goal.loop-step-preserved
loop-step-preserved g c =
    reads-step (g.R.Report.events c.args.report.now) c.args.when c.loop-step.step-index c.args.steps.now c.step-item.result c.args.place c.loop-step.at c.in_ok-at.at
    (get-at c.args.steps.now c.loop-step.step-index c.step-item.result c.loop-step-test.true c.step-item.is) c.loop-step.invariant c.in_ok-at.ensures
