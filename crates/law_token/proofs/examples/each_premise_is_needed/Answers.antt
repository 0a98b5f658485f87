-- each clause computes; a false one is refused at once
use Rattle.std.proofs.Common.{refl}
use Rattle.law_token.proofs.examples.each_premise_is_needed.Goals as goal

pub returns-clause-namesakes : goal.returns-clause-namesakes
returns-clause-namesakes c = refl

pub returns-clause-loss : goal.returns-clause-loss
returns-clause-loss c = refl

pub returns-clause-late : goal.returns-clause-late
returns-clause-late c = refl

pub returns-clause-together : goal.returns-clause-together
returns-clause-together c = refl

pub returns-clause-silence : goal.returns-clause-silence
returns-clause-silence c = refl
