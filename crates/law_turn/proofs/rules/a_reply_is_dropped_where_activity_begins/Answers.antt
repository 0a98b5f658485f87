use Rattle.law_turn.proofs.Requesting.{begin-drops, begin-keeps, begin-silences}
use Rattle.law_turn.proofs.rules.a_reply_is_dropped_where_activity_begins.Goals as goal

pub returns-clause-reply : goal.returns-clause-reply
returns-clause-reply c = begin-drops

pub returns-clause-silent : goal.returns-clause-silent
returns-clause-silent c = begin-silences

pub returns-clause-stays : goal.returns-clause-stays
returns-clause-stays c = begin-keeps
