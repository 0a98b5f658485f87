use Rattle.law_token.proofs.air.Loss.{loss_breaks}
use Rattle.law_token.proofs.events.a_loss_breaks_a_premise.Goals as goal

pub returns : goal.returns
returns c = loss_breaks
