-- each clause computes; a false one is refused at once
use Rattle.std.proofs.Common.{refl}
use Rattle.law_runs.proofs.worked.traces_are_judged.Goals as goal

pub returns-clause-first : goal.returns-clause-first
returns-clause-first c = refl

pub returns-clause-unclaimed : goal.returns-clause-unclaimed
returns-clause-unclaimed c = refl

pub returns-clause-goes_on : goal.returns-clause-goes_on
returns-clause-goes_on c = refl

pub returns-clause-not_ended : goal.returns-clause-not_ended
returns-clause-not_ended c = refl

pub returns-clause-intrudes : goal.returns-clause-intrudes
returns-clause-intrudes c = refl

pub returns-clause-answered : goal.returns-clause-answered
returns-clause-answered c = refl

pub returns-clause-intrudes_later : goal.returns-clause-intrudes_later
returns-clause-intrudes_later c = refl

pub returns-clause-acknowledged : goal.returns-clause-acknowledged
returns-clause-acknowledged c = refl

pub returns-clause-scrapped : goal.returns-clause-scrapped
returns-clause-scrapped c = refl

pub returns-clause-passed_again : goal.returns-clause-passed_again
returns-clause-passed_again c = refl

pub returns-clause-too_soon : goal.returns-clause-too_soon
returns-clause-too_soon c = refl

pub returns-clause-disturbed : goal.returns-clause-disturbed
returns-clause-disturbed c = refl

pub returns-clause-begun_before : goal.returns-clause-begun_before
returns-clause-begun_before c = refl

pub returns-clause-only_before : goal.returns-clause-only_before
returns-clause-only_before c = refl

pub returns-clause-taken : goal.returns-clause-taken
returns-clause-taken c = refl

pub returns-clause-taken_late : goal.returns-clause-taken_late
returns-clause-taken_late c = refl

pub returns-clause-damaged : goal.returns-clause-damaged
returns-clause-damaged c = refl

pub returns-clause-unheard : goal.returns-clause-unheard
returns-clause-unheard c = refl

pub returns-clause-another : goal.returns-clause-another
returns-clause-another c = refl

pub returns-clause-claim : goal.returns-clause-claim
returns-clause-claim c = refl

pub returns-clause-claim_early : goal.returns-clause-claim_early
returns-clause-claim_early c = refl

pub returns-clause-claim_in_noise : goal.returns-clause-claim_in_noise
returns-clause-claim_in_noise c = refl

pub returns-clause-claim_after_noise : goal.returns-clause-claim_after_noise
returns-clause-claim_after_noise c = refl

pub returns-clause-claim_for_another : goal.returns-clause-claim_for_another
returns-clause-claim_for_another c = refl

pub returns-clause-from_another : goal.returns-clause-from_another
returns-clause-from_another c = refl

pub returns-clause-delayed : goal.returns-clause-delayed
returns-clause-delayed c = refl

pub returns-clause-delayed_too_early : goal.returns-clause-delayed_too_early
returns-clause-delayed_too_early c = refl

pub returns-clause-own_not_delayed : goal.returns-clause-own_not_delayed
returns-clause-own_not_delayed c = refl

pub returns-clause-to_another : goal.returns-clause-to_another
returns-clause-to_another c = refl

pub returns-clause-taken_late_with_delay : goal.returns-clause-taken_late_with_delay
returns-clause-taken_late_with_delay c = refl

pub returns-clause-ended_with_delay : goal.returns-clause-ended_with_delay
returns-clause-ended_with_delay c = refl

pub returns-clause-begun_with_delay : goal.returns-clause-begun_with_delay
returns-clause-begun_with_delay c = refl
