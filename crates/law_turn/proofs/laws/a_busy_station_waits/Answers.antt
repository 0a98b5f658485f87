use Rattle.law_turn.proofs.Moments.{turn_of-busy}
use Rattle.law_turn.proofs.laws.a_busy_station_waits.Goals as goal

pub returns : goal.returns
returns c = turn_of-busy
