use Rattle.law_turn.proofs.Noting.{end-busy, end-quiet, begin-quiet}
use Rattle.law_turn.proofs.Saying.{own-quiets, own-begins, own-ends}
use Rattle.law_turn.proofs.activity.the_bus_is_quiet_since_the_latest_end.Goals as goal

pub returns-clause-busy : goal.returns-clause-busy
returns-clause-busy c = end-busy

pub returns-clause-heard : goal.returns-clause-heard
returns-clause-heard c = end-quiet

pub returns-clause-begun : goal.returns-clause-begun
returns-clause-begun c = begin-quiet

pub returns-clause-said : goal.returns-clause-said
returns-clause-said c = own-quiets

pub returns-clause-said_from : goal.returns-clause-said_from
returns-clause-said_from c = own-begins

pub returns-clause-said_to : goal.returns-clause-said_to
returns-clause-said_to c = own-ends
