-- The trace of a run stands in order.
use Rattle.std.proofs.Common.{sym, subst}
use Rattle.law_model.specs.World.{trace_limit}
use Rattle.law_runs.specs.Judging.{IsOrdered}
use Rattle.law_runs.proofs.Ordered.{is-ordered, leads-in-order}
use Rattle.pb_world.specs.Watched.{world_in}
use Rattle.pb_world.proofs.causes.Inquiry.judge_with_reasons.Goals as goal

pub illegal_at-illegal-requires : goal.illegal_at-illegal-requires
illegal_at-illegal-requires c =
    let w = world_in c.args.self.now.watched in
    let (p, specs, start, events, made, came) = c.requires in
    subst IsOrdered (sym c.entries.ensures) (is-ordered w came.watched.kept.sound (leads-in-order p specs events start w (trace_limit, made) came.lead.run.runs))
