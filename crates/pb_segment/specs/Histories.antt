-- Histories: the events that a segment has accepted, each with its reply, and the receipts of one seat in them.
use Rattle.std.specs.Prelude.{◌≡◌, ◌≤◌, ℕ, ◌+◌, ◌==◌, Bool, true, false, not, List, [], ◌∷◌, map, Some, Ok, slice_get, if◌then◌else◌}
use Rattle.law_model.specs.World.{World, Event, Turn, Pass, Damage, Start, Stop, Queue, Noise, Unheard, Reply}
use Rattle.law_model.specs.Step.{step}
use Rattle.pb_segment.specs.declared.receipts.Owner.{Owner}
use Rattle.pb_segment.specs.declared.receipts.Owner.TheVariants as owner

-- an accepted event and its reply
pub record Happened : Type 0 where
  pub event : Event
  pub reply : Reply

-- the receipt of an accepted event: how many events came before it, and its reply
pub record Receipt : Type 0 where
  pub place : ℕ
  pub reply : Reply

-- the events of a history
abbrev pub events_in : List Happened → List Event
events_in history = map (λ h. h.event) history

-- ---- replay

-- the events of a history lead from one world to another, with these replies
unfoldable pub Replays : World → List Happened → World → Type 0
Replays w [] next = w ≡ next
Replays w (h ∷ hs) next = (between : World) × (step w h.event ≡ Ok (between, h.reply)) × Replays between hs next

-- ---- the owner of an event

abbrev pub is_turn : Event → Bool
is_turn (Turn tap) = true
is_turn (Pass bits) = false
is_turn (Damage tap speaker place) = false
is_turn (Start tap) = false
is_turn (Stop tap) = false
is_turn (Queue tap request) = false
is_turn (Noise bits) = false
is_turn (Unheard tap speaker) = false

abbrev pub is_turn_of : ℕ → Event → Bool
is_turn_of tap (Turn of) = of == tap
is_turn_of tap (Pass bits) = false
is_turn_of tap (Damage of speaker place) = false
is_turn_of tap (Start of) = false
is_turn_of tap (Stop of) = false
is_turn_of tap (Queue of request) = false
is_turn_of tap (Noise bits) = false
is_turn_of tap (Unheard of speaker) = false

-- the conductor drives all events except turns
abbrev pub is_driven : Event → Bool
is_driven e = not (is_turn e)

abbrev pub is_of : Owner → Event → Bool
is_of (owner.Tap tap) e = is_turn_of tap e
is_of owner.Conductor e = is_driven e

-- ---- the receipts of a seat

abbrev pub told_if : Bool → Receipt → List Receipt → List Receipt
told_if b r rs = if b then r ∷ rs else rs

-- the receipts of a seat for its events in a history, after this many other events
unfoldable pub told_from : (Event → Bool) → ℕ → List Happened → List Receipt
told_from is place [] = []
told_from is place (h ∷ hs) = told_if (is h.event) (record { place = place; reply = h.reply }) (told_from is (place + 1) hs)

-- all its receipts
abbrev pub told : (Event → Bool) → List Happened → List Receipt
told is history = told_from is 0 history

-- a receipt is that of an event of the seat, at an index or later
pub record StandsFrom (is : Event → Bool) (history : List Happened) (from : ℕ) (r : Receipt) : Type 0 where
  pub later : from ≤ r.place
  pub happened : Happened
  pub here : slice_get history r.place ≡ Some happened
  pub own : is happened.event ≡ true
  pub reply : happened.reply ≡ r.reply

-- receipts are those of events of the seat, in order, from an index on
unfoldable pub StandInOrder : (Event → Bool) → List Happened → ℕ → List Receipt → Type 0
StandInOrder is history from [] = Unit {0}
StandInOrder is history from (r ∷ rs) = StandsFrom is history from r × StandInOrder is history (r.place + 1) rs
