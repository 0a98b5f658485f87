-- The state under the lock, and what an event of a seat does to it.
use Rattle.std.specs.Prelude.{◌≡◌, ◌≢◌, ℕ, ◌<◌, ◌≤◌, true, false, List, [], ◌∷◌, ◌++◌, length, slice_index, Ok, IsOk, MatchResult}
use Rattle.law_model.specs.World.{World, Event, Turn}
use Rattle.law_model.specs.Step.{step}
use Rattle.pb_taps.specs.Faults.{world_fault}
use Rattle.pb_taps.specs.declared.faults.WorldFault.TheVariants as world
use Rattle.pb_station.specs.Decisions.{DecisionView}
use Rattle.pb_world.specs.Glances.{Fits}
use Rattle.law_live.specs.Promises.{KeepsPromises, LeadTo}
use Rattle.pb_segment.specs.declared.faults.CommitFault.{CommitFault}
use Rattle.pb_segment.specs.declared.faults.CommitFault.TheVariants as commit
use Rattle.pb_segment.specs.declared.faults.GlanceFault.{GlanceFault}
use Rattle.pb_segment.specs.declared.faults.GlanceFault.TheVariants as glance
use Rattle.pb_segment.specs.declared.outlooks.Outlook.{Outlook}
use Rattle.pb_segment.specs.Histories.{Happened, Receipt, Replays, events_in, told, is_turn, is_turn_of, is_driven}
use Rattle.pb_segment.specs.Origins.{Origin, IsMadeOf}
use Rattle.pb_segment.specs.Outlooks.{AreOutlooksOf}
use Rattle.pb_segment.specs.Seats.{SeatView, ConductorView}

pub record LockedView : Type 0 where
  pub world : World
  pub origin : Origin  -- of what the first world was made
  pub history : List Happened
  pub turns : List ℕ  -- how many turns of each tap were accepted
  pub drives : ℕ  -- how many other events
  pub outlooks : List Outlook
  pub limit : ℕ  -- how many events the history may have

abbrev pub view_of : World → Origin → List Happened → List ℕ → ℕ → List Outlook → ℕ → LockedView
view_of w o history turns drives looks limit = record {
  world = w;
  origin = o;
  history = history;
  turns = turns;
  drives = drives;
  outlooks = looks;
  limit = limit;
}

-- the counts are those of the history
pub record AreCounts (history : List Happened) (by_tap : List ℕ) (by_conductor : ℕ) : Type 0 where
  pub turns : (tap : ℕ) → tap < length by_tap → slice_index by_tap tap ≡ length (told (is_turn_of tap) history)
  pub drives : by_conductor ≡ length (told is_driven history)

-- The world is the replay of the history, from the new world of its bus and taps, and the events of the history have
-- led to it: so it keeps the promises of the token and of silence.
pub record IsKept (l : LockedView) : Type 0 where
  pub first : World
  pub made : IsMadeOf l.origin first
  pub replays : Replays first l.history l.world
  pub lead : LeadTo first (events_in l.history) l.world
  pub promises : KeepsPromises first (events_in l.history) l.world
  pub taps : length l.world.taps ≡ length l.turns
  pub counts : AreCounts l.history l.turns l.drives
  pub outlooks : AreOutlooksOf first l.history l.outlooks
  pub room : length l.history ≤ l.limit
  pub limit : l.limit ≤ 1000000

-- ---- one more event

-- the world accepts the event, the event is appended to the history with its reply, and nothing else changes
abbrev pub Appends : LockedView → LockedView → Event → Receipt → Type 0
Appends old new event r =
    (step old.world event ≡ Ok (new.world, r.reply))
    × (r.place ≡ length old.history)
    × (new.history ≡ old.history ++ record { event = event; reply = r.reply } ∷ [])
    × (new.origin ≡ old.origin)
    × (new.outlooks ≡ old.outlooks)
    × (new.limit ≡ old.limit)

-- the same, with the receipt appended to those of its seat
abbrev pub AppendsTo : LockedView → LockedView → Event → List Receipt → List Receipt → Type 0
AppendsTo old new event before after = (r : Receipt) × Appends old new event r × (after ≡ before ++ r ∷ [])

-- why an event that its seat may have is refused: by the world; then because the history is full; then because memory
-- is refused
abbrev pub RefusesToKeep : LockedView → Event → CommitFault → Type 0
RefusesToKeep l event commit.WrongTap = ⊥
RefusesToKeep l event commit.Disagree = ⊥
RefusesToKeep l event (commit.Stale turns now) = ⊥
RefusesToKeep l event (commit.World fault) =
    MatchResult (step l.world event) (λ _. (fault ≡ world.NoMemory) × (length l.history < l.limit)) (λ reason. fault ≡ world_fault reason)
RefusesToKeep l event commit.HistoryFull = IsOk (step l.world event) × (length l.history ≡ l.limit)

-- why a turn that is taken in place is refused: as above, but memory may be refused before the world judges the turn
abbrev pub RefusesToTake : LockedView → Event → CommitFault → Type 0
RefusesToTake l event commit.WrongTap = ⊥
RefusesToTake l event commit.Disagree = ⊥
RefusesToTake l event (commit.Stale turns now) = ⊥
RefusesToTake l event (commit.World fault) = fault ≢ world.NoMemory → RefusesToKeep l event (commit.World fault)
RefusesToTake l event commit.HistoryFull = RefusesToKeep l event commit.HistoryFull

-- ---- which seats and decisions are accepted

-- the segment has accepted exactly the turns for which the tap's seat has receipts
abbrev pub KnowsTurns : LockedView → SeatView → Type 0
KnowsTurns l s = slice_index l.turns s.tap ≡ length s.receipts

-- it has accepted exactly the other events for which the conductor's seat has receipts
abbrev pub KnowsDrives : LockedView → ConductorView → Type 0
KnowsDrives l s = l.drives ≡ length s.receipts

-- why a glance or an outlook is refused: the receipts are not those of exactly its events, or else memory is refused
abbrev pub RefusesToShow : Type 0 → GlanceFault → Type 0
RefusesToShow Knows glance.Disagree = Knows → ⊥
RefusesToShow Knows glance.NoMemory = Knows

-- a decision is for the seat's tap, and was computed from the present state
abbrev pub IsPresent : LockedView → SeatView → DecisionView → Type 0
IsPresent l s d = (d.tap ≡ s.tap) × KnowsTurns l s × Fits l.world d

-- why a decision is refused
abbrev pub RefusesDecision : LockedView → SeatView → DecisionView → CommitFault → Type 0
RefusesDecision l s d commit.WrongTap = d.tap ≢ s.tap
RefusesDecision l s d commit.Disagree = (d.tap ≡ s.tap) × (KnowsTurns l s → ⊥)
RefusesDecision l s d (commit.Stale turns now) =
    (d.tap ≡ s.tap) × KnowsTurns l s × (Fits l.world d → ⊥) × (turns ≡ length s.receipts) × (now ≡ l.world.now)
RefusesDecision l s d (commit.World fault) = IsPresent l s d × RefusesToKeep l (Turn s.tap) (commit.World fault)
RefusesDecision l s d commit.HistoryFull = IsPresent l s d × RefusesToKeep l (Turn s.tap) commit.HistoryFull

-- Why a turn that is decided from the present state is refused. Memory may be refused before the world judges the turn.
abbrev pub RefusesTurn : LockedView → SeatView → CommitFault → Type 0
RefusesTurn l s commit.WrongTap = ⊥
RefusesTurn l s commit.Disagree = KnowsTurns l s → ⊥
RefusesTurn l s (commit.Stale turns now) = ⊥
RefusesTurn l s (commit.World fault) =
    KnowsTurns l s × (fault ≢ world.NoMemory → RefusesToKeep l (Turn s.tap) (commit.World fault))
RefusesTurn l s commit.HistoryFull = KnowsTurns l s × RefusesToKeep l (Turn s.tap) commit.HistoryFull

-- the conductor may have the event, and has the receipts of exactly its events
abbrev pub IsAllowed : LockedView → ConductorView → Event → Type 0
IsAllowed l s event = (is_turn event ≡ false) × KnowsDrives l s

-- why an event that the conductor drives is refused
abbrev pub RefusesEvent : LockedView → ConductorView → Event → CommitFault → Type 0
RefusesEvent l s event commit.WrongTap = is_turn event ≡ true
RefusesEvent l s event commit.Disagree = (is_turn event ≡ false) × (KnowsDrives l s → ⊥)
RefusesEvent l s event (commit.Stale turns now) = ⊥
RefusesEvent l s event (commit.World fault) = IsAllowed l s event × RefusesToKeep l event (commit.World fault)
RefusesEvent l s event commit.HistoryFull = IsAllowed l s event × RefusesToKeep l event commit.HistoryFull
