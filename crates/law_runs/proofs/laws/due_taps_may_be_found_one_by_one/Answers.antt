use Rattle.law_runs.proofs.OnTheBus.{turns-of-the-bus-one-by-one}
use Rattle.law_runs.proofs.laws.due_taps_may_be_found_one_by_one.Goals as goal

pub returns : goal.returns
returns c = turns-of-the-bus-one-by-one
