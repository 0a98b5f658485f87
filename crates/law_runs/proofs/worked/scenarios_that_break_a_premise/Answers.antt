-- each clause computes; a false one is refused at once
use Rattle.std.proofs.Common.{refl}
use Rattle.law_runs.proofs.worked.scenarios_that_break_a_premise.Goals as goal

pub returns-clause-namesakes : goal.returns-clause-namesakes
returns-clause-namesakes c = refl

pub returns-clause-passive : goal.returns-clause-passive
returns-clause-passive c = refl

pub returns-clause-later_taps : goal.returns-clause-later_taps
returns-clause-later_taps c = refl

pub returns-clause-unheard : goal.returns-clause-unheard
returns-clause-unheard c = refl

pub returns-clause-late : goal.returns-clause-late
returns-clause-late c = refl

pub returns-clause-later : goal.returns-clause-later
returns-clause-later c = refl

pub returns-clause-both_claim : goal.returns-clause-both_claim
returns-clause-both_claim c = refl

pub returns-clause-after_noise : goal.returns-clause-after_noise
returns-clause-after_noise c = refl

pub returns-clause-delay : goal.returns-clause-delay
returns-clause-delay c = refl

pub returns-clause-least_number : goal.returns-clause-least_number
returns-clause-least_number c = refl

pub returns-clause-at_the_delay : goal.returns-clause-at_the_delay
returns-clause-at_the_delay c = refl

pub returns-clause-with_lag : goal.returns-clause-with_lag
returns-clause-with_lag c = refl

pub returns-clause-late_with_delay : goal.returns-clause-late_with_delay
returns-clause-late_with_delay c = refl
