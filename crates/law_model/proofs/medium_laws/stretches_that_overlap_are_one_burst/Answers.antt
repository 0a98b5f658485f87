use Rattle.law_model.proofs.WholeTelegrams.{overlapping_ends, overlapping_joined}
use Rattle.law_model.proofs.medium_laws.stretches_that_overlap_are_one_burst.Goals as goal

pub returns-clause-ends : goal.returns-clause-ends
returns-clause-ends c = overlapping_ends

pub returns-clause-within : goal.returns-clause-within
returns-clause-within c = overlapping_joined
