use Rattle.law_turn.proofs.Requesting.{high-first, high-used, held-second, held-low}
use Rattle.law_turn.proofs.rules.without_holding_time_one_high_request_is_sent.Goals as goal

pub returns-clause-first : goal.returns-clause-first
returns-clause-first c = high-first

pub returns-clause-used : goal.returns-clause-used
returns-clause-used c = high-used

pub returns-clause-second : goal.returns-clause-second
returns-clause-second c = held-second

pub returns-clause-low : goal.returns-clause-low
returns-clause-low c = held-low
