use Rattle.pb_taps.proofs.Seats.{all-over}
use Rattle.pb_taps.proofs.turning.turn.Goals as goal

pub take_turn-requires-clause-over : goal.take_turn-requires-clause-over
take_turn-requires-clause-over c = all-over 0 c.args.now _ c.requires.order
