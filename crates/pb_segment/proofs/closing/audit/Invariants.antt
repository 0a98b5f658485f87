use Rattle.std.proofs.Common.{◌≡◌, ◌+◌, length, sum, map}
use Rattle.pb_segment.specs.Seats.{accepted}
use Rattle.pb_segment.proofs.closing.audit.Given as goal

abbrev pub invariant-loop-seat : goal.invariant-loop-seat
invariant-loop-seat g l = (l.all.parts ≡ 1 + length l.yielded) × (l.all.amount ≡ length l.fn.conductor.receipts + sum (map accepted l.yielded)) × (l.book.total ≡ l.fn.book.total)
