use Rattle.pb_ring.proofs.WordLemmas.{listed-common}
use Rattle.pb_ring.proofs.addresses.Addresses.common.Goals as goal

pub returns : goal.returns
returns c = rw (← c.self.view_is, ← c.other.view_is) (listed-common c.self.inside.bits c.other.inside.bits)
