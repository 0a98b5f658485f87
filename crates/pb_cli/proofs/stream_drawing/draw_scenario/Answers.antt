use Rattle.std.proofs.Common.{◌∙◌, ap, subst, sym}
use Rattle.std.proofs.lemmas.Result.{IfOk-weaker}
use Rattle.std.specs.Io.KnownBytes.{Appends}
use Rattle.law_streams.specs.Streams.{stream_limit, stream_within}
use Rattle.pb_scenario.specs.Repeats.{unrolled}
use Rattle.pb_stream.specs.Streams.{rest_of}
use Rattle.pb_cli.specs.StreamDrawing.{AreInOrder, DrawsRun, DrawsScenario}
use Rattle.pb_cli.specs.declared.settled.Settled.{Settled}
use Rattle.pb_cli.proofs.DrawnRuns.{in-order, no_world, whole_run}
use Rattle.pb_cli.proofs.stream_drawing.draw_scenario.Goals as goal

pub draw_run-requires-clause-order : goal.draw_run-requires-clause-order
draw_run-requires-clause-order g c =
    subst AreInOrder (sym c.in-Ok.ensures.rest) (in-order (unrolled c.until.result c.args.scenario.now) stream_limit)

pub returns-in-Ok-clause-bytes : goal.returns-in-Ok-clause-bytes
returns-in-Ok-clause-bytes g c =
    let w = c.args.window in
    let s = c.args.scenario.now in
    let o = rest_of c.in-Ok.stream in
    let before = (g.W.Sink.view c.args.writer.now).contents in
    let after = (g.W.Sink.view c.draw_run.new.writer).contents in
    let whole = c.in-Ok.ensures.rest ∙ ap (λ n. stream_within stream_limit (unrolled n s)) c.until.ensures.until in
    IfOk-weaker c.draw_run.result (DrawsRun w s o before after) (DrawsScenario w s before after)
    (λ ended run. whole_run w s o before after ended whole run) c.draw_run.ensures.bytes

pub returns-in_ok-write_out-in-Err-clause-bytes : goal.returns-in_ok-write_out-in-Err-clause-bytes
returns-in_ok-write_out-in-Err-clause-bytes g c =
    let before = (g.W.Sink.view c.args.writer.now).contents in
    let after = (g.W.Sink.view c.write_out.new.writer).contents in
    no_world c.args.window c.args.scenario.now c.in-Err.fault c.in_ok-new_line-in-Err.field-0.items before after c.refused.result
    c.in-Err.ensures.fault c.in_ok-new_line-in-Err.ensures.told c.in_ok-new_line-in-Err.ensures.line
    (subst (Appends before after) c.deref.ensures.value c.in_ok-write_out-in-Err.ensures.whole)
    (ap (λ (e : Settled). e.status) c.refused.ensures) (ap (λ (e : Settled). e.line.items) c.refused.ensures ∙ c.new-in-Err.ensures.items)
