use Rattle.std.proofs.Common.{◌≡◌, ◌∙◌, ap, refl, rules, Err}
use Rattle.std.proofs.lemmas.Result.{err_from_is_err_and}
use Rattle.pb_cli.specs.declared.faults.CliFault.{CliFault}
use Rattle.pb_cli.specs.declared.faults.CliFault.TheVariants.{Write}
use Rattle.pb_cli.proofs.Exported.{more_still, no_more}
use Rattle.pb_cli.proofs.monitoring.Exporter.run.Goals as goal

pub loop-call-init : goal.loop-call-init
loop-call-init g c = record {
  written = no_more c.args.export.now c.args.self.now.drawing (g.W.Sink.view c.args.writer.now).contents;
  unfailed = refl;
}

pub loop-call-preserved : goal.loop-call-preserved
loop-call-preserved g c = record {
  written = more_still c.args.export.now c.args.self.now.drawing c.loop-call.self.drawing c.read_on.new.self.drawing
      (g.W.Sink.view c.args.writer.now).contents (g.W.Sink.view c.loop-call.writer).contents (g.W.Sink.view c.read_on.new.writer).contents
      c.loop-call.invariant.written c.in_ok-read_on.ensures.text;
  unfailed = search rules;
}

pub returns-then-branch-clause-text : goal.returns-then-branch-clause-text
returns-then-branch-clause-text g c =
    more_still c.args.export.now c.args.self.now.drawing c.loop-call.self.drawing c.read_on.new.self.drawing
    (g.W.Sink.view c.args.writer.now).contents (g.W.Sink.view c.loop-call.writer).contents (g.W.Sink.view c.read_on.new.writer).contents
    c.loop-call.invariant.written c.in_ok-read_on.ensures.text

pub returns-in_err-read_on-clause-writer_failed : goal.returns-in_err-read_on-clause-writer_failed
returns-in_err-read_on-clause-writer_failed g c = λ others.
    let p = err_from_is_err_and c.from_residual-in_err-read_on.result c.from_residual-in_err-read_on.ensures.1 in
    c.in_err-read_on.ensures.writer_failed (λ is.
    let same : c.in_err-read_on.field-0.0 ≡ Write = cc is in
    others (p.1 ∙ ap (λ (f : CliFault). Err f) (p.2 ∙ same))) ∙ c.loop-call.invariant.unfailed
