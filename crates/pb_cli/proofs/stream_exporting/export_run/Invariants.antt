-- Some of the run is written, and the rest is to come.
use Rattle.std.proofs.Common.{◌≡◌, ◌-◌}
use Rattle.pb_stream.specs.Streams.{rest_of}
use Rattle.pb_cli.specs.Bounding.{IsBaud}
use Rattle.pb_cli.proofs.Appended.{Exports}
use Rattle.pb_cli.proofs.stream_exporting.export_run.Given as goal

abbrev pub invariant-loop-bytes : goal.invariant-loop-bytes
invariant-loop-bytes g l = record {
  exports : Exports l.export l.scenario (rest_of l.initial.stream) l.stream l.exporter (g.W.Sink.view l.initial.writer).contents (g.W.Sink.view l.writer).contents;
  baud : IsBaud l.exporter.export.baud;
  unfailed : (g.W.Sink.view l.writer).failures ≡ (g.W.Sink.view l.initial.writer).failures;
}

abbrev pub decreases-loop-bytes : goal.decreases-loop-bytes
decreases-loop-bytes g l = l.stream.walk.until - l.stream.walk.clock
