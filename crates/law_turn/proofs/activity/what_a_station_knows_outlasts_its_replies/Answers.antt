use Rattle.law_turn.proofs.Noting.{token-of_another, reply-keeps, ready-stays, ready-joins}
use Rattle.law_turn.proofs.activity.what_a_station_knows_outlasts_its_replies.Goals as goal

pub returns-clause-token : goal.returns-clause-token
returns-clause-token c = token-of_another

pub returns-clause-replied : goal.returns-clause-replied
returns-clause-replied c = reply-keeps

pub returns-clause-replied_listening : goal.returns-clause-replied_listening
returns-clause-replied_listening c = ready-stays

pub returns-clause-joined : goal.returns-clause-joined
returns-clause-joined c = ready-joins
