use Rattle.pb_ring.proofs.StandsForLemmas.{listening-stands, claimed-stands}
use Rattle.pb_ring.proofs.list_laws.a_new_list_stands_for_nothing_heard.Goals as goal

pub returns-clause-listening : goal.returns-clause-listening
returns-clause-listening c = listening-stands

pub returns-clause-claimed : goal.returns-clause-claimed
returns-clause-claimed c = claimed-stands
