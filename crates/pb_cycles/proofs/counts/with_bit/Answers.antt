use Rattle.std.proofs.Common.{ap, arith, ◌==◌}
use Rattle.std.proofs.lemmas.Nat.{or_lt, one_shl}
use Rattle.std.proofs.lemmas.Nat.Bits.{bit_at_set_same, bit_at_set_other}
use Rattle.std.proofs.Math.Pow.{pow-lt}
use mir.Syntax.{w128}
use Rattle.pb_cycles.proofs.counts.with_bit.Goals as goal

pub returns-clause-set : goal.returns-clause-set
returns-clause-set c = ap (λ b. b == 1) (bit_at_set_same w128 c.args.bits c.args.address (omega (arith, c.requires)))

pub returns-clause-others : goal.returns-clause-others
returns-clause-others c = λ i low apart. bit_at_set_other w128 c.args.bits c.args.address (omega (arith, c.requires)) i apart

pub returns-clause-fits : goal.returns-clause-fits
returns-clause-fits c = λ fits. or_lt 127 c.args.bits _ fits (omega (arith, one_shl c.args.address 128 (omega (arith, c.requires)), pow-lt {i = c.args.address} {j = 127} c.requires))
