use Rattle.pb_ring.proofs.Masks.{between-up, between-round}
use Rattle.pb_ring.proofs.words.set_between.Goals as goal

pub returns-then-from-to : goal.returns-then-from-to
returns-then-from-to c a low =
    between-up c.args.from c.args.to c.below-behind.result c.below-before.result a c.if-from-to.true c.ranges.from.fits (rw (← c.saturating_add.ensures) c.below-behind.ensures) c.below-before.ensures low

pub returns-else-from-to : goal.returns-else-from-to
returns-else-from-to c a low =
    between-round c.args.from c.args.to c.below-behind.result c.below-before.result a c.if-from-to.false c.ranges.from.fits (rw (← c.saturating_add.ensures) c.below-behind.ensures) c.below-before.ensures low
