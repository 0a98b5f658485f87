use Rattle.std.proofs.Common.{arith, sym}
use Rattle.pb_medium.proofs.Receiving.{list-length, list-none}
use Rattle.pb_medium.proofs.receptions.Reception.get.Goals as goal

pub at-requires : goal.at-requires
at-requires c = omega (arith, c.if-tap-self.true, list-length c.self.inside c.args.self.now c.self.view_is)

pub returns-else-tap-self : goal.returns-else-tap-self
returns-else-tap-self c = sym (list-none c.self.inside c.args.self.now c.args.tap c.self.view_is c.if-tap-self.false)
