use Rattle.std.proofs.Common.{Option, refl, subst, rules}
use Rattle.std.specs.Io.KnownBytes.{Appends}
use Rattle.law_streams.specs.Streams.{stream_limit, stream_within}
use Rattle.pb_scenario.specs.Repeats.{unrolled}
use Rattle.pb_cli.specs.Streaming.{StepsOn}
use Rattle.pb_cli.specs.declared.faults.Status.{Status}
use Rattle.pb_cli.proofs.Written.{begins, ends, goes_on, no_world}
use Rattle.pb_cli.proofs.streaming.stream_scenario.Goals as goal

pub returns-in-Err-clause-text : goal.returns-in-Err-clause-text
returns-in-Err-clause-text g c =
    let before = (g.W.Sink.view c.args.writer.now).contents in
    let after = (g.W.Sink.view c.write_out.new.writer).contents in
    no_world c.args.scenario.now c.args.until c.in-Err.fault c.in_ok-new_line-in-Err.field-0.items before after
    c.in-Err.ensures.fault c.in_ok-new_line-in-Err.ensures.told c.in_ok-new_line-in-Err.ensures.line
    (subst (Appends before after) c.deref.ensures.value c.in_ok-write_out-in-Err.ensures.whole)

pub returns-in-Some-clause-text : goal.returns-in-Some-clause-text
returns-in-Some-clause-text g c =
    let whole = stream_within stream_limit (unrolled c.args.until c.args.scenario.now) in
    let mid = (g.W.Sink.view c.loop-text.writer).contents in
    let after = (g.W.Sink.view c.step.new.writer).contents in
    ends c.args.scenario.now.once.names whole c.loop-text.stream (g.W.Sink.view c.args.writer.now).contents mid after c.in-Some.status c.loop-text.invariant.streams
    (subst (λ (o : Option Status). StepsOn c.loop-text.stream c.step.new.stream mid after o) c.in-Some.is c.in_ok-ended.ensures.steps)

pub loop-text-init : goal.loop-text-init
loop-text-init g c =
    let v = c.args.scenario.now in
    record {
      streams = begins v.once.names (stream_within stream_limit (unrolled c.args.until v)) c.in-Ok.stream (g.W.Sink.view c.args.writer.now).contents
          c.in-Ok.ensures.rest c.in-Ok.ensures.ready c.in-Ok.ensures.names;
      unfailed = refl;
    }

pub loop-text-preserved : goal.loop-text-preserved
loop-text-preserved g c =
    let whole = stream_within stream_limit (unrolled c.args.until c.args.scenario.now) in
    let mid = (g.W.Sink.view c.loop-text.writer).contents in
    let after = (g.W.Sink.view c.step.new.writer).contents in
    record {
      streams = goes_on c.args.scenario.now.once.names whole c.loop-text.stream c.step.new.stream (g.W.Sink.view c.args.writer.now).contents mid after c.loop-text.invariant.streams
          (subst (λ (o : Option Status). StepsOn c.loop-text.stream c.step.new.stream mid after o) c.in-None.is c.in_ok-ended.ensures.steps);
      unfailed = search rules;
    }
