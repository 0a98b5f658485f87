-- The statements of the laws.
use Rattle.std.specs.Prelude.{◌≡◌, ◌≢◌, ℕ, ◌+◌, Bool, true, false, ◌==◌, nat_le, ◌&&◌, List, [], ◌∷◌, ◌++◌, length, slice_get, count_by, Option, Some, None, Ok, if◌then◌else◌}
use Rattle.std.specs.List.{filter_map}
use Rattle.law_model.specs.World.{World, Event, Turn, Pass, Damage, Start, Stop, Queue, Noise, Unheard, new_world}
use Rattle.law_model.specs.Step.{step, world_after}
use Rattle.law_runs.specs.Runs.{Plan, wants, wanted, all, turns, due_at, one_by_one}
use Rattle.law_runs.specs.Histories.{Leads, IsRun, IsSoAfter, Picks, LeavesOthers}
use Rattle.law_runs.specs.Bus.{bus, dues}
use Rattle.law_runs.specs.Scenarios.{Deed, Happens, Withhold, Planned, Scenario, early_of, late_of, plan_of, run_of, trace_of}

-- ---- histories

-- an outlook: what is known of the world after this many events
pub record Look : Type 0 where
  pub place : ℕ
  pub dues : List (Option ℕ)
  pub change : Option ℕ

-- one of some outlooks has these values
abbrev pub Shows : List Look → ℕ → List (Option ℕ) → Option ℕ → Type 0
Shows looks place dues change = (k : ℕ) × (slice_get looks k ≡ Some (record { place = place; dues = dues; change = change }))

-- each outlook has the facts after the history's first events
abbrev pub AreLooks : World → List Event → List Look → Type 0
AreLooks first history looks = (k : ℕ) (look : Look) → slice_get looks k ≡ Some look
    → IsSoAfter bus first history look.place look.dues look.change

-- a history is cut into the instants of a scenario, by its outlooks
abbrev pub IsRunOf : Scenario → List Look → List Event → Type 0
IsRunOf s looks history = IsRun (s.until + 1) bus (plan_of s.steps s.until) (Shows looks) 0 0 history

-- A history from a scenario's new world to a last one, cut into the scenario's instants by true outlooks, leaves the
-- trace of the run on one thread, whatever the order of the turns of an instant.
abbrev pub HistoryIsRun : Type 0
HistoryIsRun = (s : Scenario) (looks : List Look) (first last : World) (history : List Event)
    → new_world s.params s.taps ≡ Ok first → Leads bus first history last → AreLooks first history looks
    → IsRunOf s looks history → trace_of s ≡ Some (Ok last.trace)

-- ---- the run itself

-- it ends, or has a first fault
abbrev pub RunEnds : Type 0
RunEnds = (s : Scenario) → run_of s ≢ None

-- its events lead from the new world to its last world
abbrev pub EventsLead : Type 0
EventsLead = (s : Scenario) (first last : World) (events : List Event) → new_world s.params s.taps ≡ Ok first → run_of s ≡ Some (Ok (last, events)) → Leads bus first events last

-- it is itself a history that is cut into the scenario's instants, by the facts of its worlds
abbrev pub RunIsHistory : Type 0
RunIsHistory = (s : Scenario) (first last : World) (events : List Event) → new_world s.params s.taps ≡ Ok first → run_of s ≡ Some (Ok (last, events))
    → IsRun (s.until + 1) bus (plan_of s.steps s.until) (IsSoAfter bus first events) 0 0 events

-- ---- turns

-- in an instant of such a history each tap that is due and not withheld takes exactly one turn, and no other tap takes
-- any
abbrev pub TurnsOnce : Type 0
TurnsOnce = (p : Plan Event) (now : ℕ) (dues : List (Option ℕ)) (taps : List ℕ) → Picks (wanted p now 0 dues) taps
    → (tap : ℕ) → count_by (λ t. t == tap) taps ≡ (if wants p now tap (due_at (slice_get dues tap)) then 1 else 0)

-- a turn does not change when the other taps are due
abbrev pub TurnsLeaveOthers : Type 0
TurnsLeaveOthers = LeavesOthers bus

-- due taps can be determined before all turns, or each before its own turn
abbrev pub TurnsOneByOne : Type 0
TurnsOneByOne = (p : Plan Event) (now : ℕ) (w : World) → all bus now (turns bus p now w) w ≡ one_by_one bus p now (length (dues w)) 0 w

-- ---- steps

-- what a scenario's steps may be: neither a turn nor a pass
abbrev pub is_from_outside : Event → Bool
is_from_outside (Turn tap) = false
is_from_outside (Pass bits) = false
is_from_outside (Damage tap speaker place) = true
is_from_outside (Start tap) = true
is_from_outside (Stop tap) = true
is_from_outside (Queue tap request) = true
is_from_outside (Noise bits) = true
is_from_outside (Unheard tap speaker) = true

abbrev pub deed_is_from_outside : Deed → Bool
deed_is_from_outside (Happens e) = is_from_outside e
deed_is_from_outside (Withhold tap bits) = true

abbrev pub AreFromOutside : List Planned → Type 0
AreFromOutside [] = Unit {0}
AreFromOutside (s ∷ steps) = (deed_is_from_outside s.deed ≡ true) × AreFromOutside steps

-- each event, with the clock at which it happens
abbrev pub timed : World → List Event → List (ℕ × Event)
timed w [] = []
timed w (e ∷ es) = (w.now, e) ∷ timed (world_after w (step w e)) es

-- an event from outside, if it happens at a moment
abbrev pub outside_at : ℕ → ℕ × Event → Option Event
outside_at m x = if x.0 == m && is_from_outside x.1 then Some x.1 else None

-- the events of a scenario's steps at a moment
abbrev pub planned_at : Scenario → ℕ → List Event
planned_at s m = if nat_le m s.until then filter_map (early_of m) s.steps ++ filter_map (late_of m) s.steps else []

-- In a run the events of the steps happen at their moments, in the order of the steps, those after the turns last; no
-- step up to the end is left out, and no other event comes from outside.
abbrev pub StepsHappen : Type 0
StepsHappen = (s : Scenario) (first last : World) (events : List Event) → new_world s.params s.taps ≡ Ok first → run_of s ≡ Some (Ok (last, events)) → AreFromOutside s.steps
    → (m : ℕ) → filter_map (outside_at m) (timed first events) ≡ planned_at s m
