-- each clause computes; a false one is refused at once
use Rattle.std.proofs.Common.{refl}
use Rattle.law_live.specs.NeverDead.{tries}
use Rattle.law_live.proofs.examples.the_bound_is_reached.Goals as goal

pub returns-clause-once : goal.returns-clause-once
unfolding tries
returns-clause-once c = refl

pub returns-clause-again : goal.returns-clause-again
unfolding tries
returns-clause-again c = refl
