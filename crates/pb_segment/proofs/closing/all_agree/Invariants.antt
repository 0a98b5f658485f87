use Rattle.std.proofs.Common.{All, take}
use Rattle.pb_segment.specs.Blocks.{happened_in}
use Rattle.pb_segment.specs.Seats.{Agrees}
use Rattle.pb_segment.proofs.closing.all_agree.Given as goal

abbrev pub invariant-loop-place : goal.invariant-loop-place
invariant-loop-place g l = All (Agrees (happened_in l.history)) (take l.place l.seats.items)
