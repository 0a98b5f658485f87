use Rattle.std.proofs.Common.{List, ℕ, [], subst}
use Rattle.std.specs.Io.KnownBytes.{Appends}
use Rattle.pb_stream.specs.Streams.{Tells}
use Rattle.pb_stream.specs.declared.streams.Progress.{Progress}
use Rattle.pb_cli.proofs.Written.{stopped}
use Rattle.pb_cli.proofs.streaming.step.Goals as goal

pub returns-in_ok-write_out-in-Refused-clause-steps : goal.returns-in_ok-write_out-in-Refused-clause-steps
returns-in_ok-write_out-in-Refused-clause-steps g c =
    let old = c.args.stream.now in
    let next = c.advance.new.self in
    let text = c.advance.new.text.items in
    let before = (g.W.Sink.view c.args.writer.now).contents in
    let mid = (g.W.Sink.view c.write_out.new.writer).contents in
    let after = (g.W.Sink.view c.write_out-in-Refused.new.writer).contents in
    let line = c.in_ok-refused_line-in-Refused.field-0.items in
    let cleared = subst (λ (xs : List ℕ). Tells c.in_ok-progress.progress old next xs text) c.clear.ensures.items c.in_ok-progress.ensures.tells in
    let tells = subst (λ (p : Progress). Tells p old next [] text) c.in-Refused.is cleared in
    let written = subst (Appends before mid) c.deref.ensures.value c.in_ok-write_out.ensures.whole in
    let more = subst (Appends mid after) c.deref-in-Refused.ensures.value c.in_ok-write_out-in-Refused.ensures.whole in
    stopped old next c.in-Refused.clock c.in-Refused.fault text line before mid after tells written
    c.in_ok-refused_line-in-Refused.ensures.line c.in_ok-refused_line-in-Refused.ensures.told more
