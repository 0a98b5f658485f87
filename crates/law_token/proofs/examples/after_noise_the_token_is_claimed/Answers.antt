-- each clause computes; a false one is refused at once
use Rattle.std.proofs.Common.{refl}
use Rattle.law_token.proofs.examples.after_noise_the_token_is_claimed.Goals as goal

pub returns-clause-noise : goal.returns-clause-noise
returns-clause-noise c = refl

pub returns-clause-late : goal.returns-clause-late
returns-clause-late c = refl

pub returns-clause-at_1161 : goal.returns-clause-at_1161
returns-clause-at_1161 c = refl

pub returns-clause-at_1180 : goal.returns-clause-at_1180
returns-clause-at_1180 c = refl
