use Rattle.law_runs.proofs.Commuting.{turns-commute}
use Rattle.law_runs.proofs.turns.turns_of_one_instant_commute.Goals as goal

pub returns : goal.returns
returns c = turns-commute
