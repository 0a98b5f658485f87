-- What must agree when a segment is closed.
use Rattle.std.specs.Prelude.{◌≡◌, ◌≢◌, ◌+◌, List, All, length, map, sum}
use Rattle.pb_segment.specs.declared.faults.CloseFault.{CloseFault}
use Rattle.pb_segment.specs.declared.faults.CloseFault.TheVariants as close
use Rattle.pb_segment.specs.Histories.{told, is_driven}
use Rattle.pb_segment.specs.Locked.{LockedView}
use Rattle.pb_segment.specs.Origins.{Origin}
use Rattle.pb_segment.specs.Reports.{ReportView, IsReport}
use Rattle.pb_segment.specs.Seats.{SeatView, ConductorView, Agrees, accepted}

-- the first world is the one with which the segment was made, and the receipts of the seats are those of the history
pub record HasTold (l : LockedView) (o : Origin) (c : ConductorView) (of_taps : List SeatView) : Type 0 where
  pub origin : l.origin ≡ o
  pub conductor : told is_driven l.history ≡ c.receipts
  pub seats : All (Agrees l.history) of_taps

-- the outlooks of the conductor agree too
abbrev pub AgreesWith : LockedView → Origin → ConductorView → List SeatView → Type 0
AgreesWith l o c of_taps = (l.outlooks ≡ c.outlooks) × HasTold l o c of_taps

-- there are as many tap seats as taps, and everything agrees
abbrev pub CanClose : LockedView → Origin → ConductorView → List SeatView → Type 0
CanClose l origin conductor seats = (length seats ≡ length l.turns) × AgreesWith l origin conductor seats

-- why a segment is not closed
abbrev pub RefusesToClose : LockedView → Origin → ConductorView → List SeatView → CloseFault → Type 0
RefusesToClose l origin conductor seats close.MissingSeat = length seats ≢ length l.turns
RefusesToClose l origin conductor seats close.Disagree = (length seats ≡ length l.turns) × (AgreesWith l origin conductor seats → ⊥)

-- a report has exactly the receipts and outlooks of the seats, on a segment made from an origin
pub record IsClosed (o : Origin) (c : ConductorView) (of_taps : List SeatView) (r : ReportView) : Type 0 where
  pub report : IsReport r
  pub origin : r.origin ≡ o
  pub conductor : told is_driven r.history ≡ c.receipts
  pub outlooks : r.outlooks ≡ c.outlooks
  pub seats : All (Agrees r.history) of_taps
  pub taps : length r.turns ≡ length of_taps
  pub all : length r.history ≡ length c.receipts + sum (map accepted of_taps)

-- a fault is `MissingSeat` exactly if the number of seats is wrong
abbrev pub IsMissing : CloseFault → Type 0 → Type 0
IsMissing close.MissingSeat IsRight = IsRight → ⊥
IsMissing close.Disagree IsRight = IsRight
