use Rattle.law_token.proofs.quiet.Reached.{bound_is_reached}
use Rattle.law_token.proofs.silence.the_silence_bound_is_reached.Goals as goal

pub returns : goal.returns
returns c = bound_is_reached
