use Rattle.law_turn.proofs.Numbers.{asked-once, asked-mark, asked-no_more, asked-request, asked-again, asked-data_mark, asked-silence}
use Rattle.law_turn.proofs.rules.one_station_is_asked_per_receipt.Goals as goal

pub returns-clause-asked : goal.returns-clause-asked
returns-clause-asked c = asked-once

pub returns-clause-heard : goal.returns-clause-heard
returns-clause-heard c = asked-mark

pub returns-clause-no_more : goal.returns-clause-no_more
returns-clause-no_more c = asked-no_more

pub returns-clause-request : goal.returns-clause-request
returns-clause-request c = asked-request

pub returns-clause-retry : goal.returns-clause-retry
returns-clause-retry c = asked-again

pub returns-clause-request_heard : goal.returns-clause-request_heard
returns-clause-request_heard c = asked-data_mark

pub returns-clause-request_silence : goal.returns-clause-request_silence
returns-clause-request_silence c = asked-silence
