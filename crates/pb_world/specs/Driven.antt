-- What calls at a bus that a caller drives do.
use Rattle.std.specs.Prelude.{◌≡◌, ◌⊎◌, ℕ, ◌==◌, ◌<◌, ◌≤◌, List, [], ◌∷◌, ◌++◌, length, map, Some, Result, Ok, MatchResult, OnOk, OnErr, if◌then◌else◌}
use Rattle.std.specs.Option.{option_map}
use Rattle.law_model.specs.Behind.{behind}
use Rattle.law_model.specs.Trace.{Entry}
use Rattle.law_model.specs.World.{World, Event, Reply}
use Rattle.law_model.specs.Step.{step, RunsTo}
use Rattle.law_token.specs.Actions.{Action, Happens, Sets}
use Rattle.pb_taps.specs.Faults.{Refuses}
use Rattle.pb_taps.specs.declared.faults.WorldFault.{WorldFault}
use Rattle.pb_taps.specs.declared.faults.WorldFault.TheVariants as fault
use Rattle.pb_medium.specs.LettingGo.{past_of}
use Rattle.pb_world.specs.Acted.{HasActed, IsDrivenBy, ActsOnBy}
use Rattle.pb_world.specs.Data.{SetsData}
use Rattle.pb_world.specs.Told.{emptied, executed_by, tray_at, tray_with}
use Rattle.pb_world.specs.Watched.{world_in}
use Rattle.pb_world.specs.declared.driven.Driven.{Driven}
use Rattle.pb_world.specs.declared.watched.Watched.{Watched}

-- events have led on from the actions that led to a bus, and what stations execute in them is kept where it is asked for
pub record ComesOn (old : Watched) (more : List Event) (new : Watched) : Type 0 where
  pub acts : (gone : List Entry) (start : World) (actions : List Action) → HasActed old gone start actions → HasActed new gone start (actions ++ map Happens more)
  pub runs : RunsTo (world_in old) more (world_in new)
  pub told : (k : ℕ) → tray_at new.told k ≡ tray_with (executed_by (world_in old) more k) (tray_at old.told k)

-- the world is the same, and whatever actions led to it still do
pub record StaysBut (old new : Watched) : Type 0 where
  pub world : world_in new ≡ world_in old
  pub came : (gone : List Entry) (start : World) (actions : List Action) → HasActed old gone start actions → HasActed new gone start actions

abbrev pub KeepsSame : Watched → Watched → Type 0
KeepsSame old new = (k : ℕ) → tray_at new.told k ≡ tray_at old.told k

-- nothing has happened: also what is kept is the same
pub record Stays (old new : Watched) : Type 0 where
  pub rest : StaysBut old new
  pub told : KeepsSame old new

-- what is kept of a tap is empty from now on, with this room
abbrev pub KeepsFrom : Watched → (tap room : ℕ) → Watched → Type 0
KeepsFrom old tap room new = (tap < length (world_in old).taps)
    × ((k : ℕ) → tray_at new.told k ≡ (if k == tap then Some (record { room = room; requests = [] }) else tray_at old.told k))

-- why it is not: there is no such tap, or memory was refused; nothing changes
abbrev pub RefusesToKeep : Watched → ℕ → Watched → WorldFault → Type 0
RefusesToKeep old tap new reason = KeepsSame old new
    × (((reason ≡ fault.NoSuchTap) × (length (world_in old).taps ≤ tap)) ⊎ ((reason ≡ fault.NoMemory) × (tap < length (world_in old).taps)))

-- what is kept of a tap is empty
abbrev pub Forgets : Watched → ℕ → Watched → Type 0
Forgets old tap new = (k : ℕ) → tray_at new.told k ≡ (if k == tap then option_map emptied (tray_at old.told k) else tray_at old.told k)

-- an event has happened, or it is refused and nothing has happened
abbrev pub Applies : Watched → Event → Result (Unit {0}) WorldFault → Watched → Type 0
Applies old e result new = MatchResult result
    (λ _. ComesOn old (e ∷ []) new × ((reply : Reply) × (step (world_in old) e ≡ Ok (world_in new, reply))))
    (λ fault. Stays old new × Refuses (world_in old) e (step (world_in old) e) fault)

-- the data of a tap have changed, or it is refused and nothing has changed
pub record SetsReply (old : Watched) (tap : ℕ) (unit : List ℕ) (result : Result (Unit {0}) WorldFault) (new : Watched) : Type 0 where
  pub sets : SetsData (world_in old) tap unit result (world_in new)
  pub acts : OnOk result (ActsOnBy old (Sets tap unit) new)
  pub stays : OnErr result (Stays old new)
  pub told : KeepsSame old new

-- the entries that are over are let go: no events have another effect without them, and the judge has heard them
pub record LetsGo (old new : Driven) : Type 0 where
  pub world : world_in old.watched ≡ behind (past_of old.watched.bus.trace) (world_in new.watched)
  pub acts : (gone : List Entry) (start : World) (actions : List Action)
      → IsDrivenBy old gone start actions → IsDrivenBy new (gone ++ past_of old.watched.bus.trace) start actions
  pub told : KeepsSame old.watched new.watched
