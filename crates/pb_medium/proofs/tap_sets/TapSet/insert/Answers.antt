use Rattle.std.proofs.Common.{ap, arith, ◌==◌}
use Rattle.std.proofs.lemmas.Nat.Bits.{bit_at_set_same, bit_at_set_other}
use mir.Syntax.{w128}
use Rattle.pb_medium.proofs.tap_sets.TapSet.insert.Goals as goal

pub returns-clause-new : goal.returns-clause-new
returns-clause-new c = ap (λ b. b == 1) (bit_at_set_same w128 c.args.self.now.bits c.args.tap (omega (arith, c.requires)))

pub returns-clause-others : goal.returns-clause-others
returns-clause-others c = λ other apart. ap (λ b. b == 1) (bit_at_set_other w128 c.args.self.now.bits c.args.tap (omega (arith, c.requires)) other apart)
