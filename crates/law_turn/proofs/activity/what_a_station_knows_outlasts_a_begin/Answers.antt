use Rattle.law_turn.proofs.Noting.{begin-namesake, begin-refused, begin-question, begin-question_before, begin-request, begin-request_before}
use Rattle.law_turn.proofs.activity.what_a_station_knows_outlasts_a_begin.Goals as goal

pub returns-clause-namesake : goal.returns-clause-namesake
returns-clause-namesake c = begin-namesake

pub returns-clause-refused : goal.returns-clause-refused
returns-clause-refused c = begin-refused

pub returns-clause-question : goal.returns-clause-question
returns-clause-question c = begin-question

pub returns-clause-question_before : goal.returns-clause-question_before
returns-clause-question_before c = begin-question_before

pub returns-clause-request : goal.returns-clause-request
returns-clause-request c = begin-request

pub returns-clause-request_before : goal.returns-clause-request_before
returns-clause-request_before c = begin-request_before
