use Rattle.std.proofs.Common.{◌∙◌, ap, subst, arith, rules}
use Rattle.std.specs.Io.KnownBytes.{Appends}
use Rattle.std.specs.Prelude.{is_some}
use Rattle.law_streams.specs.Audits.{audited_within}
use Rattle.law_streams.specs.Streams.{stream_limit}
use Rattle.pb_scenario.specs.Repeats.{unrolled}
use Rattle.pb_stream.specs.declared.streams.Progress.{Progress}
use Rattle.pb_world.specs.declared.findings.Audit.{Audit}
use Rattle.pb_cli.specs.Statuses.{status_of}
use Rattle.pb_cli.specs.StreamAudits.{StepsTo}
use Rattle.pb_cli.proofs.AuditWritten.{no_world}
use Rattle.pb_cli.proofs.stream_audits.audit_scenario.Goals as goal

pub returns-in-Err-clause-text : goal.returns-in-Err-clause-text
returns-in-Err-clause-text g c =
    let before = (g.W.Sink.view c.args.writer.now).contents in
    let after = (g.W.Sink.view c.write_out.new.writer).contents in
    no_world c.args.scenario.now c.args.until c.in-Err.fault c.in_ok-new_line-in-Err.field-0.items before after
    c.in-Err.ensures.fault c.in_ok-new_line-in-Err.ensures.told c.in_ok-new_line-in-Err.ensures.line
    (subst (Appends before after) c.deref.ensures.value c.in_ok-write_out-in-Err.ensures.whole)

pub loop-text-smaller : goal.loop-text-smaller
loop-text-smaller g c =
    let whole = audited_within stream_limit (unrolled c.args.until c.args.scenario.now) in
    let start = (g.W.Sink.view c.args.writer.now).contents in
    let steps = c.in_ok-step.ensures.steps whole start c.loop-text.invariant.audits c.loop-text.invariant.text in
    let (on, text) = subst (λ (p : Progress). StepsTo p whole c.loop-text.stream c.step.new.stream start (g.W.Sink.view c.step.new.writer).contents) c.in-Goes.is steps in
    omega (arith, on.later, on.until, on.audit.in_time)

pub loop-text-preserved : goal.loop-text-preserved
loop-text-preserved g c =
    let whole = audited_within stream_limit (unrolled c.args.until c.args.scenario.now) in
    let start = (g.W.Sink.view c.args.writer.now).contents in
    let steps = c.in_ok-step.ensures.steps whole start c.loop-text.invariant.audits c.loop-text.invariant.text in
    let (on, text) = subst (λ (p : Progress). StepsTo p whole c.loop-text.stream c.step.new.stream start (g.W.Sink.view c.step.new.writer).contents) c.in-Goes.is steps in
    record { audits = on.audit; text = text; unfailed = search rules }

pub returns-in-Ended-clause-text : goal.returns-in-Ended-clause-text
returns-in-Ended-clause-text g c =
    let whole = audited_within stream_limit (unrolled c.args.until c.args.scenario.now) in
    let start = (g.W.Sink.view c.args.writer.now).contents in
    let steps = c.in_ok-step.ensures.steps whole start c.loop-text.invariant.audits c.loop-text.invariant.text in
    let (a, is, text, same) = subst (λ (p : Progress). StepsTo p whole c.loop-text.stream c.step.new.stream start (g.W.Sink.view c.step.new.writer).contents) c.in-Ended.is steps in
    (a, is, text, c.of.ensures ∙ ap status_of (c.is_some.ensures ∙ ap (λ (f : Audit). is_some f.illegal) c.found.ensures ∙ same))

pub returns-in-Refused-clause-text : goal.returns-in-Refused-clause-text
returns-in-Refused-clause-text g c =
    let whole = audited_within stream_limit (unrolled c.args.until c.args.scenario.now) in
    let start = (g.W.Sink.view c.args.writer.now).contents in
    subst (λ (p : Progress). StepsTo p whole c.loop-text.stream c.step.new.stream start (g.W.Sink.view c.step.new.writer).contents) c.in-Refused.is
    (c.in_ok-step.ensures.steps whole start c.loop-text.invariant.audits c.loop-text.invariant.text)
