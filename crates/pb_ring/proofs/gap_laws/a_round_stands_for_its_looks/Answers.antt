use Rattle.pb_ring.proofs.GapRounds.{stands_for-look, asked-last}
use Rattle.pb_ring.proofs.gap_laws.a_round_stands_for_its_looks.Goals as goal

pub returns-clause-look : goal.returns-clause-look
returns-clause-look c = stands_for-look

pub returns-clause-asked : goal.returns-clause-asked
returns-clause-asked c = asked-last
