-- each clause computes; a false one is refused at once
use Rattle.std.proofs.Common.{refl}
use Rattle.law_token.proofs.examples.the_premises_can_be_met.Goals as goal

pub returns-clause-ring : goal.returns-clause-ring
returns-clause-ring c = refl

pub returns-clause-damage : goal.returns-clause-damage
returns-clause-damage c = refl

pub returns-clause-stop : goal.returns-clause-stop
returns-clause-stop c = refl

pub returns-clause-noise : goal.returns-clause-noise
returns-clause-noise c = refl

pub returns-clause-late : goal.returns-clause-late
returns-clause-late c = refl

pub returns-clause-at_the_lag : goal.returns-clause-at_the_lag
returns-clause-at_the_lag c = refl

pub returns-clause-delay : goal.returns-clause-delay
returns-clause-delay c = refl

pub returns-clause-silence : goal.returns-clause-silence
returns-clause-silence c = refl
