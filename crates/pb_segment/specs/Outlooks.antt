-- Outlooks, as the conductor sees them.
use Rattle.std.specs.Prelude.{◌≡◌, ◌≤◌, List, All, length, take}
use Rattle.law_model.specs.World.{World}
use Rattle.law_runs.specs.Bus.{dues, next_change}
use Rattle.pb_segment.specs.Histories.{Happened, Replays}
use Rattle.pb_segment.specs.declared.outlooks.Outlook.{Outlook}

-- an outlook has the values of a world
pub record ShowsWorld (w : World) (o : Outlook) : Type 0 where
  pub now : o.now ≡ w.now
  pub due : o.due ≡ dues w
  pub next_change : o.next_change ≡ next_change w

-- it has those of the world after the first events of a history
pub record IsOutlookOf (first : World) (history : List Happened) (o : Outlook) : Type 0 where
  pub place : o.place ≤ length history
  pub world : World
  pub replays : Replays first (take o.place history) world
  pub shows : ShowsWorld world o

-- each of some outlooks has
abbrev pub AreOutlooksOf : World → List Happened → List Outlook → Type 0
AreOutlooksOf first history looks = All (IsOutlookOf first history) looks
