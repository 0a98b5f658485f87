use Rattle.std.proofs.Common.{◌≡◌, take}
use Rattle.pb_cycles.proofs.queues.list_of.Given as goal

abbrev pub invariant-loop-request : goal.invariant-loop-request
invariant-loop-request l = (l.list.items ≡ take l.request-index l.requests)
