use Rattle.law_turn.proofs.Numbers.{request-heard, request-heard-data}
use Rattle.law_turn.proofs.rules.a_foreign_request_takes_the_token_away.Goals as goal

pub returns-clause-data_reply : goal.returns-clause-data_reply
returns-clause-data_reply c = request-heard-data

pub returns-clause-status_reply : goal.returns-clause-status_reply
returns-clause-status_reply c = request-heard
