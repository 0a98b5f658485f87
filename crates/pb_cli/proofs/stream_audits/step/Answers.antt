-- What is written of an instant, by how it ends.
use Rattle.std.proofs.Common.{◌∙◌, ◌++◌, List, ℕ, ap, subst}
use Rattle.std.specs.Io.KnownBytes.{Appends}
use Rattle.pb_world.specs.declared.findings.Audit.{Audit}
use Rattle.pb_cli.specs.StreamAudits.{EndsWith, news_text}
use Rattle.pb_cli.proofs.AuditWritten.{steps}
use Rattle.pb_cli.proofs.stream_audits.step.Goals as goal

pub returns-clause-steps : goal.returns-clause-steps
returns-clause-steps g c =
    let p = c.in_ok-progress.progress in
    let old = c.args.stream.now in
    let new = c.advance.new.self in
    let news = c.push_news.new.text.items in
    let text = c.push_end.new.text.items in
    let before = (g.W.Sink.view c.args.writer.now).contents in
    let after = (g.W.Sink.view c.write_out.new.writer).contents in
    let now = c.found-2.result.now in
    let said =
    c.in_ok-push_news.ensures ∙ ap (λ (l : List ℕ). l ++ news_text c.found.result.now now) c.clear.ensures.items
    ∙ ap (λ (a : Audit). news_text a now) c.found.ensures ∙ ap (news_text old.found) c.found-2.ensures in
    steps p old new news text before after c.in_ok-progress.ensures said (subst (λ (a : Audit). EndsWith p a news text) c.found-3.ensures c.in_ok-push_end.ensures)
    (subst (Appends before after) c.deref.ensures.value c.in_ok-write_out.ensures.whole)
