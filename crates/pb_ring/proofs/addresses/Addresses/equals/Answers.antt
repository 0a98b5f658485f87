use Rattle.std.proofs.Common.{rules}
use Rattle.pb_ring.proofs.WordLemmas.{is_same-listed, same-words}
use Rattle.pb_ring.proofs.addresses.Addresses.equals.Goals as goal

pub returns-clause-listed : goal.returns-clause-listed
returns-clause-listed c = rw (← c.self.view_is, ← c.other.view_is) (is_same-listed c.self.inside.bits c.other.inside.bits c.self.invariant c.other.invariant)

pub returns-clause-same : goal.returns-clause-same
returns-clause-same c = search (rules, same-words)
