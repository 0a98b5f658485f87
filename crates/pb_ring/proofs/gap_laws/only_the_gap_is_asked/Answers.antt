use Rattle.pb_ring.proofs.GapRounds.{asks-gap}
use Rattle.pb_ring.proofs.gap_laws.only_the_gap_is_asked.Goals as goal

pub returns : goal.returns
returns c = asks-gap
