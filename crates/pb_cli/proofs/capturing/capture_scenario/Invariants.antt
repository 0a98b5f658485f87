-- Some lines are written, and the rest of the run is to come.
use Rattle.std.proofs.Common.{◌≡◌, ◌-◌}
use Rattle.law_streams.specs.Streams.{stream_limit, stream_within}
use Rattle.pb_scenario.specs.Repeats.{unrolled}
use Rattle.pb_cli.proofs.Captured.{Goes}
use Rattle.pb_cli.proofs.capturing.capture_scenario.Given as goal

abbrev pub invariant-loop-text : goal.invariant-loop-text
invariant-loop-text g l = record {
  goes : Goes (stream_within stream_limit (unrolled l.scenario.until l.scenario)) l.stream (g.W.Sink.view l.initial.writer).contents (g.W.Sink.view l.writer).contents;
  unfailed : (g.W.Sink.view l.writer).failures ≡ (g.W.Sink.view l.initial.writer).failures;
}

abbrev pub decreases-loop-text : goal.decreases-loop-text
decreases-loop-text g l = l.stream.walk.until - l.stream.walk.clock
