use Rattle.pb_ring.proofs.NeighbourLemmas.{members-ascend, members-stations}
use Rattle.pb_ring.proofs.list_laws.the_members_are_a_set.Goals as goal

pub returns-clause-ascending : goal.returns-clause-ascending
returns-clause-ascending c = members-ascend

pub returns-clause-stations : goal.returns-clause-stations
returns-clause-stations c = members-stations
