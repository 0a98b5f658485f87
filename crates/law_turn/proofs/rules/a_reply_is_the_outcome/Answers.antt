use Rattle.law_turn.proofs.Requesting.{reply-told, reply-goes_on, reply-acknowledged, again-framed, again-damaged}
use Rattle.law_turn.proofs.rules.a_reply_is_the_outcome.Goals as goal

pub returns-clause-told : goal.returns-clause-told
returns-clause-told c = reply-told

pub returns-clause-goes_on : goal.returns-clause-goes_on
returns-clause-goes_on c = reply-goes_on

pub returns-clause-acknowledged : goal.returns-clause-acknowledged
returns-clause-acknowledged c = reply-acknowledged

pub returns-clause-no_reply : goal.returns-clause-no_reply
returns-clause-no_reply c = again-framed

pub returns-clause-damaged : goal.returns-clause-damaged
returns-clause-damaged c = again-damaged
