-- Seats as contracts see them.
use Rattle.std.specs.Prelude.{◌≡◌, ℕ, List, [], ◌∷◌, ◌++◌, length, None}
use Rattle.law_model.specs.World.{Reply}
use Rattle.pb_station.specs.Decisions.{DecisionView}
use Rattle.pb_segment.specs.declared.faults.CommitFault.{CommitFault}
use Rattle.pb_segment.specs.declared.faults.CommitFault.TheVariants as commit
use Rattle.pb_segment.specs.Histories.{Happened, Receipt, is_turn_of, told}
use Rattle.pb_segment.specs.declared.outlooks.Outlook.{Outlook}

-- the seat of a tap, with the receipts of its turns
pub record SeatView : Type 0 where
  pub tap : ℕ
  pub receipts : List Receipt

-- the conductor's seat, with its receipts and outlooks
pub record ConductorView : Type 0 where
  pub receipts : List Receipt
  pub outlooks : List Outlook

-- how many events of the seat were accepted
abbrev pub accepted : SeatView → ℕ
accepted s = length s.receipts

-- a seat has one more receipt, with this reply
abbrev pub IsTold : List Receipt → List Receipt → (Reply → Type 0) → Type 0
IsTold before after Is = (r : Receipt) × (after ≡ before ++ r ∷ []) × Is r.reply

-- a reply has the clock of a decision, and the octets that it sends
abbrev pub Answers : DecisionView → Reply → Type 0
Answers d reply = reply ≡ record { now = d.now; spoke = d.speak }

-- a reply has no octets
abbrev pub IsSilent : Reply → Type 0
IsSilent reply = reply.spoke ≡ None

-- a stale decision is refused with this number of turns
abbrev pub CountsTurns : ℕ → CommitFault → Type 0
CountsTurns turns commit.WrongTap = Unit {0}
CountsTurns turns commit.Disagree = Unit {0}
CountsTurns turns (commit.Stale counted now) = counted ≡ turns
CountsTurns turns (commit.World fault) = Unit {0}
CountsTurns turns commit.HistoryFull = Unit {0}

-- a turn that is decided from the present state is refused neither as another tap's nor as stale
abbrev pub IsOfPresent : CommitFault → Type 0
IsOfPresent commit.WrongTap = ⊥
IsOfPresent commit.Disagree = Unit {0}
IsOfPresent (commit.Stale counted now) = ⊥
IsOfPresent (commit.World fault) = Unit {0}
IsOfPresent commit.HistoryFull = Unit {0}

-- the receipts of a seat are those of its turns in a history
abbrev pub Agrees : List Happened → SeatView → Type 0
Agrees history s = told (is_turn_of s.tap) history ≡ s.receipts
