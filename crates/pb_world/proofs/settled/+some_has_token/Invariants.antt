use Rattle.std.proofs.Common.{length}
use Rattle.pb_world.proofs.settled.+some_has_token.Given as goal

abbrev pub decreases-some_has_token : goal.decreases-some_has_token
decreases-some_has_token l = length l.taps.now
