use Rattle.law_turn.proofs.Checks.{check-ended, check-ended_in_slot, check-taken, check-goes_on, check-passes_nothing}
use Rattle.law_turn.proofs.rules.activity_ends_the_check.Goals as goal

pub returns-clause-begun : goal.returns-clause-begun
returns-clause-begun c = check-ended

pub returns-clause-in_slot : goal.returns-clause-in_slot
returns-clause-in_slot c = check-ended_in_slot

pub returns-clause-taken : goal.returns-clause-taken
returns-clause-taken c = check-taken

pub returns-clause-before : goal.returns-clause-before
returns-clause-before c = check-goes_on

pub returns-clause-heard : goal.returns-clause-heard
returns-clause-heard c = check-passes_nothing
