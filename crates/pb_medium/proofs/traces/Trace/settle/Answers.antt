use Rattle.std.proofs.Common.{refl, map}
use Rattle.pb_taps.specs.Taps.{tap_of}
use Rattle.pb_medium.specs.Settling.{settled}
use Rattle.pb_medium.proofs.Lending.{given-back}
use Rattle.pb_medium.proofs.traces.Trace.settle.Goals as goal

pub returns : goal.returns
returns c = record {
  over = refl;
  limit = refl;
  entries = given-back c.args.self.now c.deref_mut.result.now c.settle.new.entries (settled c.args.delay (map tap_of c.args.taps.now) c.args.from c.args.to)
      c.deref_mut.ensures.value c.deref_mut.ensures.len c.settle.ensures.length c.settle.ensures.settled;
}
