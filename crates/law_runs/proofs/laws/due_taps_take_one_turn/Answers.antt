use Rattle.law_runs.proofs.OnTheBus.{turns-of-an-instant-once}
use Rattle.law_runs.proofs.laws.due_taps_take_one_turn.Goals as goal

pub returns : goal.returns
returns c = turns-of-an-instant-once
