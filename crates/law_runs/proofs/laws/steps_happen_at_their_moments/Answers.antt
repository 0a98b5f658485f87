use Rattle.law_runs.proofs.OnTheBus.{steps-happen}
use Rattle.law_runs.proofs.laws.steps_happen_at_their_moments.Goals as goal

pub returns : goal.returns
returns c = steps-happen
