use Rattle.law_turn.proofs.Requesting.{passive-stays, passive-replies}
use Rattle.law_turn.proofs.rules.a_passive_station_only_replies.Goals as goal

pub returns-clause-stays : goal.returns-clause-stays
returns-clause-stays c = passive-stays

pub returns-clause-replies : goal.returns-clause-replies
returns-clause-replies c = passive-replies
