use Rattle.law_model.proofs.Sensed.{sensed-own}
use Rattle.law_model.proofs.medium_laws.a_tap_does_not_hear_itself.Goals as goal

pub returns : goal.returns
returns c = sensed-own
