use Rattle.pb_taps.proofs.Seats.{all-over}
use Rattle.pb_taps.proofs.turning.would_say.Goals as goal

pub would_speak-requires-clause-over : goal.would_speak-requires-clause-over
would_speak-requires-clause-over c = all-over 0 c.args.now _ c.requires.order
