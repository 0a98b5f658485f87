use Rattle.std.proofs.Common.{arith}
use Rattle.pb_ring.proofs.Masks.{part-set, part-none, part-clear}
use Rattle.pb_ring.proofs.WordLemmas.{highest-is, highest-is_none}
use Rattle.pb_ring.proofs.words.highest_set.Goals as goal

pub returns-then-left-eq0 : goal.returns-then-left-eq0
returns-then-left-eq0 c = highest-is_none c.args.bits c.args.low c.args.high c.requires (part-none c.args.bits c.within-left.result c.args.low c.args.high c.within-left.ensures c.if-left-eq0.true)

pub returns : goal.returns
returns c =
    let here = part-set c.args.bits c.within-left.result c.args.low c.args.high c.highest_bit.result c.within-left.ensures c.highest_bit.ensures.set in
    highest-is c.args.bits c.args.low c.args.high c.highest_bit.result c.requires here.1 here.2 here.0
    (λ x above below. part-clear c.args.bits c.within-left.result c.args.low c.args.high x c.within-left.ensures (c.highest_bit.ensures.highest x (omega arith)) (omega (arith, here.1)) below)
