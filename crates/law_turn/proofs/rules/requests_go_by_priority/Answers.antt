use Rattle.law_turn.proofs.Requesting.{high-next, low-next, high-left, low-left}
use Rattle.law_turn.proofs.rules.requests_go_by_priority.Goals as goal

pub returns-clause-high : goal.returns-clause-high
returns-clause-high c = high-next

pub returns-clause-low : goal.returns-clause-low
returns-clause-low c = low-next

pub returns-clause-high_left : goal.returns-clause-high_left
returns-clause-high_left c = high-left

pub returns-clause-low_left : goal.returns-clause-low_left
returns-clause-low_left c = low-left
