use Rattle.law_turn.proofs.Moments.{turn_of-offline}
use Rattle.law_turn.proofs.laws.who_is_offline_says_nothing.Goals as goal

pub returns : goal.returns
returns c = turn_of-offline
