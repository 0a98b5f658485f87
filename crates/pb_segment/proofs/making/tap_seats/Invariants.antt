use Rattle.std.proofs.Common.{◌≡◌, ◌+◌, ◌<◌, ℕ, length, slice_get, Some, []}
use Rattle.pb_segment.proofs.making.tap_seats.Given as goal

abbrev pub invariant-loop-tap : goal.invariant-loop-tap
invariant-loop-tap g l = (l.rest.parts + l.tap ≡ l.taps + 1) × (l.rest.amount ≡ 0) × (length l.seats.items ≡ l.tap)
    × ((tap : ℕ) → tap < l.tap → slice_get l.seats.items tap ≡ Some (record { tap = tap; receipts = [] }))
