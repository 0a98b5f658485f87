use Rattle.law_turn.proofs.Requesting.{unanswered-outcome, unanswered-use, unanswered-first}
use Rattle.law_turn.proofs.rules.without_an_answer_the_next_request_is_a_first_one.Goals as goal

pub returns-clause-outcome : goal.returns-clause-outcome
returns-clause-outcome c = unanswered-outcome

pub returns-clause-goes_on : goal.returns-clause-goes_on
returns-clause-goes_on c = unanswered-use

pub returns-clause-first : goal.returns-clause-first
returns-clause-first c = unanswered-first
