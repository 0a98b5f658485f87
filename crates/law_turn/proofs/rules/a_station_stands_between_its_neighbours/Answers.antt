use Rattle.std.proofs.Common.{[], ◌∷◌}
use Rattle.law_turn.proofs.Rounds.{next-of, previous-of}
use Rattle.law_turn.proofs.rules.a_station_stands_between_its_neighbours.Goals as goal

pub returns-clause-next : goal.returns-clause-next
returns-clause-next c s own is = next-of s 5 (2 ∷ 5 ∷ 9 ∷ []) own is

pub returns-clause-previous : goal.returns-clause-previous
returns-clause-previous c s own is = previous-of s 5 (2 ∷ 5 ∷ 9 ∷ []) own is

pub returns-clause-next_of_last : goal.returns-clause-next_of_last
returns-clause-next_of_last c s own is = next-of s 9 (2 ∷ 5 ∷ 9 ∷ []) own is

pub returns-clause-previous_of_first : goal.returns-clause-previous_of_first
returns-clause-previous_of_first c s own is = previous-of s 2 (2 ∷ 5 ∷ 9 ∷ []) own is
