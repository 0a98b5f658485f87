use Rattle.std.proofs.Common.{◌∙◌, ap, arith, map, refl}
use Rattle.std.proofs.lemmas.List.{length-map}
use Rattle.pb_taps.specs.Taps.{spec_of}
use Rattle.pb_world.specs.Airtimes.{air_of}
use Rattle.pb_world.proofs.Hearing.{no-ends-yet}
use Rattle.pb_world.proofs.judge.Judge.new.Goals as goal

pub returns : goal.returns
returns c = record {
  params = refl;
  addresses = c.in_ok-addresses_of.ensures;
  few = omega (arith, length-map c.args.taps.now spec_of, c.requires);
  count = refl;
  ends = c.in_ok-new.ensures.ends ∙ no-ends-yet spec_of c.args.taps.now;
  recent = ap (map air_of) c.in_ok-new.ensures.recent;
  last = tt;
  illegal = refl;
}
