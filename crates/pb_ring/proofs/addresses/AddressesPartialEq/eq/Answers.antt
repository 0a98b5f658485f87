use Rattle.std.proofs.Common.{rules}
use Rattle.pb_ring.proofs.WordLemmas.{equal-words}
use Rattle.pb_ring.proofs.addresses.AddressesPartialEq.eq.Goals as goal

pub returns : goal.returns
returns c = search (rules, equal-words)
