-- What agrees where a segment is closed, put together.
use Rattle.std.proofs.Common.{◌≡◌, List, Bool, IsTrue, All}
use Rattle.pb_segment.specs.Closing.{HasTold}
use Rattle.pb_segment.specs.Histories.{told, is_driven}
use Rattle.pb_segment.specs.Locked.{LockedView}
use Rattle.pb_segment.specs.Origins.{Origin}
use Rattle.pb_segment.specs.Seats.{SeatView, ConductorView, Agrees}

pub agreeing : (l : LockedView) (o : Origin) (c : ConductorView) (seats : List SeatView) (r : Bool) → l.origin ≡ o → told is_driven l.history ≡ c.receipts
    → (IsTrue r → All (Agrees l.history) seats) × (All (Agrees l.history) seats → IsTrue r) → (IsTrue r → HasTold l o c seats) × (HasTold l o c seats → IsTrue r)
agreeing l o c seats r origin conductor taps =
    (λ t. record { origin = origin; conductor = conductor; seats = taps.0 t }, λ a. taps.1 a.seats)
