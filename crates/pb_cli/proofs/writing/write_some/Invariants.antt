use Rattle.std.proofs.Common.{◌≡◌, ◌≤◌}
use Rattle.std.specs.Io.KnownBytes.{Keeps}
use Rattle.pb_cli.specs.Counts.{GrowsBy}
use Rattle.pb_cli.proofs.writing.write_some.Given as goal

abbrev pub invariant-loop-interruption : goal.invariant-loop-interruption
invariant-loop-interruption g l = record {
  kept : Keeps (g.W.Sink.view l.initial.writer).contents (g.W.Sink.view l.writer).contents;
  unfailed : (g.W.Sink.view l.writer).failures ≡ (g.W.Sink.view l.initial.writer).failures;
  in_a_row : l._interruption ≤ (g.W.Sink.view l.writer).in_a_row;
  interrupted : GrowsBy l._interruption (g.W.Sink.view l.initial.writer).interruptions (g.W.Sink.view l.writer).interruptions;
}
