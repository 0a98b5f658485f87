use Rattle.std.proofs.Common.{arith}
use Rattle.pb_ring.proofs.Masks.{part-set, part-none, part-clear}
use Rattle.pb_ring.proofs.WordLemmas.{lowest-is, lowest-is_none}
use Rattle.pb_ring.proofs.words.lowest_set.Goals as goal

pub returns-then-left-eq0-clause-value : goal.returns-then-left-eq0-clause-value
returns-then-left-eq0-clause-value c = lowest-is_none c.args.bits c.args.low c.args.high c.requires (part-none c.args.bits c.within-left.result c.args.low c.args.high c.within-left.ensures c.if-left-eq0.true)

pub returns-clause-value : goal.returns-clause-value
returns-clause-value c =
    let here = part-set c.args.bits c.within-left.result c.args.low c.args.high c.lowest_bit.result c.within-left.ensures c.lowest_bit.ensures.set in
    lowest-is c.args.bits c.args.low c.args.high c.lowest_bit.result c.requires here.1 here.2 here.0
    (λ x low below. part-clear c.args.bits c.within-left.result c.args.low c.args.high x c.within-left.ensures (c.lowest_bit.ensures.lowest x below) low (omega (arith, here.2)))

pub returns-clause-below : goal.returns-clause-below
returns-clause-below c = (part-set c.args.bits c.within-left.result c.args.low c.args.high c.lowest_bit.result c.within-left.ensures c.lowest_bit.ensures.set).2
