use Rattle.pb_ring.specs.LasList.{Token, Enters, Leaves, Joins}
use Rattle.pb_ring.proofs.StandsForLemmas.{stands_for-more}
use Rattle.pb_ring.proofs.list_laws.a_list_stands_for_what_was_heard_and_done.Goals as goal

pub returns-clause-heard : goal.returns-clause-heard
returns-clause-heard c t claim is sa da source destination = stands_for-more t claim is (Token sa da) (source, destination)

pub returns-clause-entered : goal.returns-clause-entered
returns-clause-entered c t claim is a = stands_for-more t claim is (Enters a)

pub returns-clause-removed : goal.returns-clause-removed
returns-clause-removed c t claim is a = stands_for-more t claim is (Leaves a)

pub returns-clause-readied : goal.returns-clause-readied
returns-clause-readied c t claim is ts = stands_for-more t claim is (Joins ts)
