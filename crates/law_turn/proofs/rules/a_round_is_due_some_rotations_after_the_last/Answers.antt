use Rattle.law_turn.proofs.Rounds.{round-waits, round-begins, round-goes_on}
use Rattle.law_turn.proofs.rules.a_round_is_due_some_rotations_after_the_last.Goals as goal

pub returns-clause-waits : goal.returns-clause-waits
returns-clause-waits c = round-waits

pub returns-clause-begins : goal.returns-clause-begins
returns-clause-begins c = round-begins

pub returns-clause-goes_on : goal.returns-clause-goes_on
returns-clause-goes_on c = round-goes_on
