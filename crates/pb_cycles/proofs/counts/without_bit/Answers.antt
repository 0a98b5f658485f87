use Rattle.std.proofs.Common.{ap, arith, ◌==◌}
use Rattle.std.proofs.lemmas.Nat.{and_le_l}
use Rattle.std.proofs.lemmas.Nat.Bits.{bit_at_clear_same, bit_at_clear_other}
use mir.Syntax.{w128}
use Rattle.pb_cycles.proofs.counts.without_bit.Goals as goal

pub returns-clause-clear : goal.returns-clause-clear
returns-clause-clear c = ap (λ b. b == 1) (bit_at_clear_same w128 c.args.bits c.args.address (omega (arith, c.requires)))

pub returns-clause-others : goal.returns-clause-others
returns-clause-others c = λ i low apart. bit_at_clear_other w128 c.args.bits c.args.address (omega (arith, c.requires)) i (omega (arith, low)) apart

pub returns-clause-fits : goal.returns-clause-fits
returns-clause-fits c = and_le_l c.args.bits _
