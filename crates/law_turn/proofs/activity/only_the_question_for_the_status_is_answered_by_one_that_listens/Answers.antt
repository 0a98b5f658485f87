use Rattle.law_turn.proofs.Noting.{asks-status, asks-request, asks-code, asks-address, asks-silent}
use Rattle.law_turn.proofs.activity.only_the_question_for_the_status_is_answered_by_one_that_listens.Goals as goal

pub returns-clause-asks : goal.returns-clause-asks
returns-clause-asks c = asks-status

pub returns-clause-request : goal.returns-clause-request
returns-clause-request c = asks-request

pub returns-clause-code : goal.returns-clause-code
returns-clause-code c = asks-code

pub returns-clause-address : goal.returns-clause-address
returns-clause-address c = asks-address

pub returns-clause-silent : goal.returns-clause-silent
returns-clause-silent c = asks-silent
