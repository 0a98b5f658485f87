use Rattle.std.proofs.Common.{◌∙◌}
use Rattle.law_model.specs.World.{trace_limit}
use Rattle.law_runs.proofs.Ordered.{is-ordered, leads-in-order}
use Rattle.law_live.proofs.Promising.{kept_promises}
use Rattle.pb_world.specs.Auditing.{Finds}
use Rattle.pb_world.specs.Watched.{world_in}
use Rattle.pb_world.proofs.Tokens.{legal-if-kept}
use Rattle.pb_world.proofs.watched.Watched.judge.Goals as goal

pub findings-requires : goal.findings-requires
findings-requires c =
    let w = world_in c.args.self.now in
    let (p, specs, start, events, made, came) = c.requires in
    is-ordered w came.watched.kept.sound (leads-in-order p specs events start w (trace_limit, made) came.lead.run.runs)

pub returns : goal.returns
returns c = λ p specs start events made came.
    let w = world_in c.args.self.now in
    let finds : Finds p specs events _ = (start, w, made, came.lead.run.runs, c.findings.ensures.premise ∙ came.stands.broken, c.findings.ensures.illegal, kept_promises start w events came.lead) in
    (finds, legal-if-kept p specs events _ finds)
