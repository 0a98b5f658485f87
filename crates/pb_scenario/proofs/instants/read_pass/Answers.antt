-- The pass that was found is this one.
use Rattle.std.proofs.Common.{◌∙◌, sym}
use Rattle.law_model.specs.World.{Pass}
use Rattle.pb_scenario.proofs.Joined.{reads-one}
use Rattle.pb_scenario.proofs.instants.read_pass.Goals as goal

pub returns-then-is_pass : goal.returns-then-is_pass
returns-then-is_pass g c =
    rw c.in-Some.is (reads-one (g.R.Report.events c.args.report.now) c.args.place (Pass c.in-Some.bits) (sym c.event.ensures ∙ c.is_pass.ensures c.if-is_pass.true))
