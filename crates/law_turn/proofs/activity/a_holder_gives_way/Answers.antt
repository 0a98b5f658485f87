use Rattle.law_turn.proofs.Noting.{begin-claim, begin-use, begin-pass}
use Rattle.law_turn.proofs.activity.a_holder_gives_way.Goals as goal

pub returns-clause-claim : goal.returns-clause-claim
returns-clause-claim c = begin-claim

pub returns-clause-in_use : goal.returns-clause-in_use
returns-clause-in_use c = begin-use

pub returns-clause-pass : goal.returns-clause-pass
returns-clause-pass c = begin-pass
