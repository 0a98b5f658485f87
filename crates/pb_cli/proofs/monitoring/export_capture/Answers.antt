use Rattle.std.proofs.Common.{◌∙◌, ap, subst, ◌++◌, ℕ, List}
use Rattle.std.specs.Io.KnownBytes.{Appends}
use Rattle.pb_cli.specs.Monitoring.{WritesOn, begin_of, heard_of}
use Rattle.pb_cli.proofs.Exported.{ends, more_still}
use Rattle.pb_cli.proofs.monitoring.export_capture.Goals as goal

pub returns-clause-text : goal.returns-clause-text
returns-clause-text g c =
    let x = c.args.export.now in
    let p = c.args.params in
    let first = c.new-3.result in
    let next = c.run.new.self.drawing in
    let last = c.write.new.self.drawing in
    let before = (g.W.Sink.view c.args.writer.now).contents in
    let begun = (g.W.Sink.view c.write_out.new.writer).contents in
    let mid = (g.W.Sink.view c.run.new.writer).contents in
    let end = (g.W.Sink.view c.write.new.writer).contents in
    let after = (g.W.Sink.view c.draw.new.writer).contents in
    let head : Appends before begun (begin_of x p) =
    subst (Appends before begun) (c.deref.ensures.value ∙ c.in_ok-push_begin.ensures ∙ ap (λ (z : List ℕ). z ++ begin_of x p) c.new-bytes.ensures.items) c.in_ok-write_out.ensures.whole in
    let rest : WritesOn x next last mid end = record {
      bursts = heard_of c.finish.new.self;
      text = c.in_ok-write.ensures.text;
      drawing = c.in_ok-write.ensures.drawing;
    } in
    ends x p first last before begun end after head c.new-3.ensures
    (more_still x first next last begun mid end c.in_ok-run.ensures.text rest) c.in_ok-draw.ensures.text
