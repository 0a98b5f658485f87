-- Some bursts are written.
use Rattle.std.proofs.Common.{◌≡◌}
use Rattle.pb_cli.specs.Monitoring.{WritesOn}
use Rattle.pb_cli.proofs.monitoring.Exporter.run.Given as goal

abbrev pub invariant-loop-call : goal.invariant-loop-call
invariant-loop-call g l = record {
  written : WritesOn l.export l.fn.self.drawing l.self.drawing (g.W.Sink.view l.fn.writer).contents (g.W.Sink.view l.writer).contents;
  unfailed : (g.W.Sink.view l.writer).failures ≡ (g.W.Sink.view l.fn.writer).failures;
}
