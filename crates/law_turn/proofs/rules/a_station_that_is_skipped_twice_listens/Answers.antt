use Rattle.law_turn.proofs.Numbers.{skipped-twice, skipped-once}
use Rattle.law_turn.proofs.rules.a_station_that_is_skipped_twice_listens.Goals as goal

pub returns-clause-twice : goal.returns-clause-twice
returns-clause-twice c = skipped-twice

pub returns-clause-once : goal.returns-clause-once
returns-clause-once c = skipped-once
