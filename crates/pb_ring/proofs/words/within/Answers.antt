use Rattle.pb_ring.proofs.Masks.{part-within}
use Rattle.pb_ring.proofs.words.within.Goals as goal

pub returns : goal.returns
returns c x = rw (c.below.ensures, c.below-2.ensures) (part-within c.args.bits c.args.low c.args.high x c.requires)
