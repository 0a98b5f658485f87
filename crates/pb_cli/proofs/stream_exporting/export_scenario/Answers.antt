use Rattle.std.proofs.Common.{◌∙◌, ◌++◌, List, ℕ, ap, subst}
use Rattle.std.proofs.lemmas.Result.{IfOk-weaker}
use Rattle.std.specs.Io.KnownBytes.{Appends}
use Rattle.law_streams.specs.Streams.{stream_limit, stream_within}
use Rattle.pb_scenario.specs.Repeats.{unrolled}
use Rattle.pb_stream.specs.Streams.{rest_of}
use Rattle.pb_export.specs.Streamed.{head_of}
use Rattle.pb_cli.specs.Exporting.{ExportsRun, ExportsScenario}
use Rattle.pb_cli.specs.declared.settled.Settled.{Settled}
use Rattle.pb_cli.proofs.Appended.{no_world, whole_run}
use Rattle.pb_cli.proofs.stream_exporting.export_scenario.Goals as goal

pub returns-in_ok-write_out-in-Ok-clause-bytes : goal.returns-in_ok-write_out-in-Ok-clause-bytes
returns-in_ok-write_out-in-Ok-clause-bytes g c =
    let x = c.args.export.now in
    let s = c.args.scenario.now in
    let o = rest_of c.in-Ok.stream in
    let before = (g.W.Sink.view c.args.writer.now).contents in
    let mid = (g.W.Sink.view c.write_out.new.writer).contents in
    let after = (g.W.Sink.view c.export_run.new.writer).contents in
    let whole = c.in-Ok.ensures.rest ∙ ap (λ n. stream_within stream_limit (unrolled n s)) c.until.ensures.until in
    let bytes = c.deref.ensures.value ∙ c.in_ok-push_stream_head-in-Ok.ensures ∙ ap (λ (l : List ℕ). l ++ head_of x s) c.new-bytes.ensures.items in
    IfOk-weaker c.export_run.result (ExportsRun x s o mid after) (ExportsScenario x s before after)
    (λ ended run. whole_run x s o before mid after ended whole (subst (Appends before mid) bytes c.in_ok-write_out-in-Ok.ensures.whole) run) c.export_run.ensures.bytes

pub returns-in_ok-write_out-in-Err-clause-bytes : goal.returns-in_ok-write_out-in-Err-clause-bytes
returns-in_ok-write_out-in-Err-clause-bytes g c =
    let before = (g.W.Sink.view c.args.writer.now).contents in
    let after = (g.W.Sink.view c.write_out-in-Err.new.writer).contents in
    no_world c.args.export.now c.args.scenario.now c.in-Err.fault c.in_ok-new_line-in-Err.field-0.items before after c.refused.result
    c.in-Err.ensures.fault c.in_ok-new_line-in-Err.ensures.told c.in_ok-new_line-in-Err.ensures.line
    (subst (Appends before after) c.deref-in-Err.ensures.value c.in_ok-write_out-in-Err.ensures.whole)
    (ap (λ (e : Settled). e.status) c.refused.ensures) (ap (λ (e : Settled). e.line.items) c.refused.ensures ∙ c.new-in-Err.ensures.items)
