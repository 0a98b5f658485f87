use Rattle.std.proofs.Common.{length}
use Rattle.pb_world.proofs.settled.+ring_of.Given as goal

abbrev pub decreases-ring_of : goal.decreases-ring_of
decreases-ring_of l = length l.taps.now
