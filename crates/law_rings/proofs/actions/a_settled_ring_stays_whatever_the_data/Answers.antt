use Rattle.law_rings.proofs.Bounded.{ring_stays_by}
use Rattle.law_rings.proofs.actions.a_settled_ring_stays_whatever_the_data.Goals as goal

pub returns : goal.returns
returns c = ring_stays_by
