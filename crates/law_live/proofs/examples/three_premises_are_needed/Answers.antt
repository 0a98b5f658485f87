-- each clause computes; a false one is refused at once
use Rattle.std.proofs.Common.{refl}
use Rattle.law_live.specs.NeverDead.{tries}
use Rattle.law_live.proofs.examples.three_premises_are_needed.Goals as goal

pub returns-clause-noise : goal.returns-clause-noise
unfolding tries
returns-clause-noise c = refl

pub returns-clause-late : goal.returns-clause-late
unfolding tries
returns-clause-late c = refl

pub returns-clause-namesakes : goal.returns-clause-namesakes
unfolding tries
returns-clause-namesakes c = refl

pub returns-clause-loss : goal.returns-clause-loss
unfolding tries
returns-clause-loss c = refl
