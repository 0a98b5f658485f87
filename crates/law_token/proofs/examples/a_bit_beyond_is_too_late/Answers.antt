-- each clause computes; a false one is refused at once
use Rattle.std.proofs.Common.{refl}
use Rattle.law_token.proofs.examples.a_bit_beyond_is_too_late.Goals as goal

pub returns-clause-taken : goal.returns-clause-taken
returns-clause-taken c = refl

pub returns-clause-with_delay : goal.returns-clause-with_delay
returns-clause-with_delay c = refl

pub returns-clause-replied : goal.returns-clause-replied
returns-clause-replied c = refl
