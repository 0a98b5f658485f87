use Rattle.pb_taps.proofs.Seats.{all-over}
use Rattle.pb_taps.proofs.taps.Tap.would_execute.Goals as goal

pub would_execute-requires-clause-over : goal.would_execute-requires-clause-over
would_execute-requires-clause-over c = all-over 0 c.args.now c.args.self.now.marks c.requires.order
