use Rattle.std.proofs.Common.{rules}
use Rattle.std.proofs.lemmas.List.{take_rest}
use Rattle.pb_cli.proofs.Streamed.{Appends-take}
use Rattle.pb_cli.proofs.writing.write_out.Goals as goal

pub loop-written-preserved : goal.loop-written-preserved
loop-written-preserved g c = record {
  front = Appends-take _ _ _ c.loop-written.written c.in_ok-written.field-0 c.args.text.now c.loop-written.invariant.front
      (rw take_rest at c.in_ok-written.ensures.front);
  within = search rules;
  unfailed = search rules;
  later = search rules;
}
