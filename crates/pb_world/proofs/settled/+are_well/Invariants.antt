use Rattle.std.proofs.Common.{length}
use Rattle.pb_world.proofs.settled.+are_well.Given as goal

abbrev pub decreases-are_well : goal.decreases-are_well
decreases-are_well l = length l.taps.now
