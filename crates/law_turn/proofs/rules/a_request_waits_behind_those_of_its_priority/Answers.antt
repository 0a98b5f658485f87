use Rattle.law_turn.proofs.Requesting.{pushed-high, pushed-low, pushed-full}
use Rattle.law_turn.proofs.rules.a_request_waits_behind_those_of_its_priority.Goals as goal

pub returns-clause-high : goal.returns-clause-high
returns-clause-high c = pushed-high

pub returns-clause-low : goal.returns-clause-low
returns-clause-low c = pushed-low

pub returns-clause-full : goal.returns-clause-full
returns-clause-full c = pushed-full
