use Rattle.pb_ring.proofs.WordLemmas.{listed-zero}
use Rattle.pb_ring.proofs.addresses.Addresses.none.Goals as goal

pub returns : goal.returns
returns c = listed-zero
