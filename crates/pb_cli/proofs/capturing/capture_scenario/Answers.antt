use Rattle.std.proofs.Common.{◌∙◌, Option, ap, refl, subst, rules}
use Rattle.std.specs.Io.KnownBytes.{Appends}
use Rattle.law_streams.specs.Streams.{stream_limit, stream_within}
use Rattle.pb_scenario.specs.Repeats.{unrolled}
use Rattle.pb_cli.specs.Capturing.{PlaysOn}
use Rattle.pb_cli.specs.declared.settled.Settled.{Settled}
use Rattle.pb_cli.proofs.Captured.{begins, ends, goes_on, refuses}
use Rattle.pb_cli.proofs.capturing.capture_scenario.Goals as goal

pub returns-in-Err-clause-text : goal.returns-in-Err-clause-text
returns-in-Err-clause-text g c =
    let before = (g.W.Sink.view c.args.writer.now).contents in
    let after = (g.W.Sink.view c.refuse.new.writer).contents in
    refuses c.args.scenario.now c.in-Err.fault c.deref.result.now before after c.refuse.result c.in-Err.ensures.fault
    c.in_ok-new_line-in-Err.ensures.told (c.deref.ensures.value ∙ c.in_ok-new_line-in-Err.ensures.line) c.refuse.ensures.text

pub loop-text-init : goal.loop-text-init
loop-text-init g c =
    let until = c.until.ensures.until in
    record {
      goes = begins (stream_within stream_limit (unrolled c.args.scenario.now.until c.args.scenario.now)) c.in-Ok.stream (g.W.Sink.view c.args.writer.now).contents
          (c.in-Ok.ensures.rest ∙ ap (λ n. stream_within stream_limit (unrolled n c.args.scenario.now)) until) c.in-Ok.ensures.ready;
      unfailed = refl;
    }

pub returns-in-Some-clause-text : goal.returns-in-Some-clause-text
returns-in-Some-clause-text g c =
    let whole = stream_within stream_limit (unrolled c.args.scenario.now.until c.args.scenario.now) in
    let mid = (g.W.Sink.view c.loop-text.writer).contents in
    let after = (g.W.Sink.view c.write_out.new.writer).contents in
    ends whole c.loop-text.stream c.play.new.text.items (g.W.Sink.view c.args.writer.now).contents mid after c.in-Some.settled c.loop-text.invariant.goes
    (subst (λ (o : Option Settled). PlaysOn c.loop-text.stream c.play.new.stream o) c.in-Some.is c.in_ok-ended.ensures)
    (subst (Appends mid after) c.deref-in-loop-text.ensures.value c.in_ok-write_out.ensures.whole)

pub loop-text-preserved : goal.loop-text-preserved
loop-text-preserved g c =
    let whole = stream_within stream_limit (unrolled c.args.scenario.now.until c.args.scenario.now) in
    let mid = (g.W.Sink.view c.loop-text.writer).contents in
    let after = (g.W.Sink.view c.write_out.new.writer).contents in
    record {
      goes = goes_on whole c.loop-text.stream c.play.new.stream c.play.new.text.items (g.W.Sink.view c.args.writer.now).contents mid after c.loop-text.invariant.goes
          (subst (λ (o : Option Settled). PlaysOn c.loop-text.stream c.play.new.stream o) c.in-None.is c.in_ok-ended.ensures)
          (subst (Appends mid after) c.deref-in-loop-text.ensures.value c.in_ok-write_out.ensures.whole);
      unfailed = search rules;
    }
