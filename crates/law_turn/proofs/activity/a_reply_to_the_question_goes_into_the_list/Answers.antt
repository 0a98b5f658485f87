use Rattle.law_turn.proofs.Noting.{told-goes_on, told-no_reply, told-ready, told-another, told-error}
use Rattle.law_turn.proofs.activity.a_reply_to_the_question_goes_into_the_list.Goals as goal

pub returns-clause-goes_on : goal.returns-clause-goes_on
returns-clause-goes_on c = told-goes_on

pub returns-clause-no_reply : goal.returns-clause-no_reply
returns-clause-no_reply c = told-no_reply

pub returns-clause-ready : goal.returns-clause-ready
returns-clause-ready c = told-ready

pub returns-clause-another_type : goal.returns-clause-another_type
returns-clause-another_type c = told-another

pub returns-clause-error : goal.returns-clause-error
returns-clause-error c = told-error
