use Rattle.law_token.proofs.whole.Induction.{theorem, theorem_of_delay}
use Rattle.law_token.proofs.theorem.the_token_is_exclusive.Goals as goal

pub returns-clause-exclusive : goal.returns-clause-exclusive
returns-clause-exclusive c = theorem

pub returns-clause-with_delay : goal.returns-clause-with_delay
returns-clause-with_delay c = theorem_of_delay
