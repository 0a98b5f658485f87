use Rattle.pb_ring.proofs.NeighbourLemmas.{next-is, previous-is, previous-next, next-previous}
use Rattle.pb_ring.proofs.list_laws.neighbours_are_each_others_inverse.Goals as goal

pub returns-clause-next : goal.returns-clause-next
returns-clause-next c members ts up in_it = (next-is members ts ts up in_it).member

pub returns-clause-previous : goal.returns-clause-previous
returns-clause-previous c members ts up in_it = (previous-is members ts ts up in_it).member

pub returns-clause-back : goal.returns-clause-back
returns-clause-back c = previous-next

pub returns-clause-forth : goal.returns-clause-forth
returns-clause-forth c = next-previous

pub returns-clause-nearest : goal.returns-clause-nearest
returns-clause-nearest c members ts a up in_it = (next-is members ts a up in_it).nearest a in_it
