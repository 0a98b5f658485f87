use Rattle.law_model.proofs.WholeTelegrams.{fills_burst-one_instant}
use Rattle.law_model.proofs.medium_laws.telegrams_of_one_instant_are_not_heard.Goals as goal

pub returns : goal.returns
returns c = fills_burst-one_instant
