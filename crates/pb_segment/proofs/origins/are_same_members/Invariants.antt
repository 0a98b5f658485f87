use Rattle.std.proofs.Common.{◌≡◌, take}
use Rattle.pb_segment.proofs.origins.are_same_members.Given as goal

abbrev pub invariant-loop-place : goal.invariant-loop-place
invariant-loop-place l = take l.place l.one.items ≡ take l.place l.other.items
