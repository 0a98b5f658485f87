use Rattle.std.proofs.lemmas.Nat.Bits.{bit_at-trailing_zeros}
use mir.Syntax.{w128}
use Rattle.pb_ring.proofs.words.lowest_bit.Goals as goal

pub returns-clause-set : goal.returns-clause-set
returns-clause-set c = (bit_at-trailing_zeros w128 c.args.bits c.requires c.ranges.bits.fits).1

pub returns-clause-lowest : goal.returns-clause-lowest
returns-clause-lowest c = (bit_at-trailing_zeros w128 c.args.bits c.requires c.ranges.bits.fits).2
