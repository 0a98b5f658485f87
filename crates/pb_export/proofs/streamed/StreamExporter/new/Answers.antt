use Rattle.std.proofs.Common.{refl, subst}
use Rattle.pb_export.specs.Waves.{IsBegun}
use Rattle.pb_export.proofs.Settling.{begun}
use Rattle.pb_export.proofs.streamed.StreamExporter.new.Goals as goal

pub returns : goal.returns
returns c = record {
  export = refl;
  rest = begun _ c.args.scenario.now (subst (λ u. IsBegun c.args.export.now.window u c.begun.result) c.until.ensures.until c.begun.ensures);
}
