use Rattle.law_turn.proofs.Paths.{idle-takes_first}
use Rattle.law_turn.proofs.laws.a_first_token_is_taken_from_the_previous_station.Goals as goal

pub returns : goal.returns
returns c = idle-takes_first
