use Rattle.pb_ring.proofs.Masks.{highest-set, none-above}
use Rattle.pb_ring.proofs.words.highest_bit.Goals as goal

pub returns-clause-set : goal.returns-clause-set
returns-clause-set c = highest-set c.args.bits c.ilog2.result c.ilog2.ensures.power_le c.ilog2.ensures.next_power_gt

pub returns-clause-highest : goal.returns-clause-highest
returns-clause-highest c = λ x above. none-above c.args.bits c.ilog2.result x c.ilog2.ensures.next_power_gt above
