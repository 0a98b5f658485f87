use Rattle.law_rings.proofs.Bounded.{ring_stays}
use Rattle.law_rings.proofs.theorem.a_settled_ring_stays.Goals as goal

pub returns : goal.returns
returns c = ring_stays
