use Rattle.law_turn.proofs.Checks.{check-waits, check-again, check-given_up}
use Rattle.law_turn.proofs.rules.a_token_is_passed_again_after_its_slot.Goals as goal

pub returns-clause-waits : goal.returns-clause-waits
returns-clause-waits c = check-waits

pub returns-clause-again : goal.returns-clause-again
returns-clause-again c = check-again

pub returns-clause-given_up : goal.returns-clause-given_up
returns-clause-given_up c = check-given_up
