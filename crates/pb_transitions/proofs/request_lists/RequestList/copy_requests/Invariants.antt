-- The requests before the index stand behind those that both have.
use Rattle.std.proofs.Common.{◌≡◌, ◌≤◌, ◌++◌, take}
use Rattle.std.specs.Vec.{vec_capacity}
use Rattle.pb_transitions.proofs.request_lists.RequestList.copy_requests.Given as goal

abbrev pub invariant-loop-request : goal.invariant-loop-request
invariant-loop-request l =
    (l.self-inside.requests.items ≡ take l.both l.other ++ take l.request-index l.request-items) × (16 ≤ vec_capacity l.self-inside.requests)
