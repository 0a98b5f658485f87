use Rattle.law_turn.proofs.Paths.{listening-takes_none}
use Rattle.law_turn.proofs.laws.one_that_listens_takes_no_token.Goals as goal

pub returns : goal.returns
returns c = listening-takes_none
