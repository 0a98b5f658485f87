-- The requests before the place are those of the others.
use Rattle.std.proofs.Common.{◌≡◌, take, length}
use Rattle.pb_transitions.proofs.request_lists.copy_over.Given as goal

abbrev pub invariant-loop-place : goal.invariant-loop-place
invariant-loop-place l = (take l.place l.requests ≡ take l.place l.others) × (length l.requests ≡ length l.others)
