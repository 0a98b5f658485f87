use Rattle.pb_segment.specs.Blocks.{happened_in}
use Rattle.pb_segment.specs.Locked.{view_of}
use Rattle.pb_segment.proofs.Replaying.{kept_report}
use Rattle.pb_segment.proofs.locked.Locked.into_report.Goals as goal

pub invariant_of-result : goal.invariant_of-result
invariant_of-result g c =
    let i = c.self.inside in
    rw c.of.ensures (kept_report (view_of i.world i.origin (happened_in i.history) i.turns.items i.drives i.outlooks.items i.limit) _ c.self.invariant.0 c.into_trace.ensures)

pub returns-clause-report : goal.returns-clause-report
returns-clause-report g c =
    let i = c.self.inside in
    rw c.of.ensures (kept_report (view_of i.world i.origin (happened_in i.history) i.turns.items i.drives i.outlooks.items i.limit) _ c.self.invariant.0 c.into_trace.ensures)
