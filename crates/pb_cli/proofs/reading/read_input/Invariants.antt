use Rattle.std.proofs.Common.{◌≡◌, ◌≤◌, ◌+◌, ◌-◌, vec_len}
use Rattle.std.specs.Io.KnownBytes.{Consumes}
use Rattle.pb_cli.specs.Counts.{GrowsBy}
use Rattle.pb_cli.specs.Reading.{byte_limit}
use Rattle.pb_cli.proofs.reading.read_input.Given as goal

abbrev pub invariant-loop-call : goal.invariant-loop-call
invariant-loop-call g l = record {
  consumed : Consumes (g.R.Source.view l.initial.reader).remaining (g.R.Source.view l.reader).remaining l.input.items;
  fits : vec_len l.input ≤ byte_limit;
  unfailed : (g.R.Source.view l.reader).failures ≡ (g.R.Source.view l.initial.reader).failures;
  interrupted : GrowsBy (l._call - vec_len l.input) (g.R.Source.view l.initial.reader).interruptions (g.R.Source.view l.reader).interruptions;
  limited : (g.R.Source.view l.reader).calls ≤ (g.R.Source.view l.initial.reader).calls + l._call;
  called : GrowsBy l._call (g.R.Source.view l.initial.reader).calls (g.R.Source.view l.reader).calls;
}
