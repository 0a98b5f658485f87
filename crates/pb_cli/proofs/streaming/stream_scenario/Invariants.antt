-- Some of the stream is written, and the rest is to come.
use Rattle.std.proofs.Common.{◌≡◌, ◌-◌}
use Rattle.law_streams.specs.Streams.{stream_limit, stream_within}
use Rattle.pb_scenario.specs.Repeats.{unrolled}
use Rattle.pb_cli.proofs.Written.{Streams}
use Rattle.pb_cli.proofs.streaming.stream_scenario.Given as goal

abbrev pub invariant-loop-text : goal.invariant-loop-text
invariant-loop-text g l = record {
  streams : Streams l.scenario.once.names (stream_within stream_limit (unrolled l.until l.scenario)) l.stream
      (g.W.Sink.view l.initial.writer).contents (g.W.Sink.view l.writer).contents;
  unfailed : (g.W.Sink.view l.writer).failures ≡ (g.W.Sink.view l.initial.writer).failures;
}

abbrev pub decreases-loop-text : goal.decreases-loop-text
decreases-loop-text g l = l.stream.walk.until - l.stream.walk.clock
