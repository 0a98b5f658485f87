use Rattle.law_turn.proofs.Addresses.{turn-address}
use Rattle.law_turn.proofs.laws.a_turn_keeps_the_address.Goals as goal

pub returns : goal.returns
returns c = turn-address
