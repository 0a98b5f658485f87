use Rattle.std.proofs.Common.{◌≡◌, ◌≤◌, ◌-◌, length, take}
use Rattle.std.specs.Io.KnownBytes.{Appends}
use Rattle.pb_cli.specs.Counts.{GrowsBy}
use Rattle.pb_cli.proofs.writing.write_out.Given as goal

abbrev pub invariant-loop-written : goal.invariant-loop-written
invariant-loop-written g l = record {
  front : Appends (g.W.Sink.view l.initial.writer).contents (g.W.Sink.view l.writer).contents (take l.written l.text);
  within : l.written ≤ length l.text;
  unfailed : (g.W.Sink.view l.writer).failures ≡ (g.W.Sink.view l.initial.writer).failures;
  later : GrowsBy 0 (g.W.Sink.view l.initial.writer).interruptions (g.W.Sink.view l.writer).interruptions;
}

abbrev pub decreases-loop-written : goal.decreases-loop-written
decreases-loop-written g l = length l.text - l.written
