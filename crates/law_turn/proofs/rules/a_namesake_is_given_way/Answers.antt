use Rattle.law_turn.proofs.Numbers.{namesake-first, namesake-second}
use Rattle.law_turn.proofs.rules.a_namesake_is_given_way.Goals as goal

pub returns-clause-first : goal.returns-clause-first
returns-clause-first c = namesake-first

pub returns-clause-second : goal.returns-clause-second
returns-clause-second c = namesake-second
