use Rattle.pb_taps.proofs.Seats.{all-over}
use Rattle.pb_taps.proofs.taps.Tap.standing.Goals as goal

pub standing-requires-clause-over : goal.standing-requires-clause-over
standing-requires-clause-over c = all-over 0 c.args.now c.args.self.now.marks c.requires.order
