use Rattle.law_model.proofs.WholeTelegrams.{touching_apart}
use Rattle.law_model.proofs.medium_laws.stretches_that_touch_stay_apart.Goals as goal

pub returns : goal.returns
returns c = touching_apart
