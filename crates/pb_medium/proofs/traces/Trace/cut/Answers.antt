use Rattle.std.proofs.Common.{refl, map}
use Rattle.law_model.specs.Trace.{cut_at}
use Rattle.pb_medium.proofs.Lending.{given-back}
use Rattle.pb_medium.proofs.traces.Trace.cut.Goals as goal

pub returns : goal.returns
returns c = record {
  over = refl;
  limit = refl;
  entries = given-back c.args.self.now c.deref_mut.result.now c.cut_all.new.entries (map (cut_at c.args.now c.args.tap)) c.deref_mut.ensures.value c.deref_mut.ensures.len
      c.cut_all.ensures.length c.cut_all.ensures.cut;
}
