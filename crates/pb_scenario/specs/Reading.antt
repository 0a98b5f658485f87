-- How far a history is read.
use Rattle.std.specs.Prelude.{◌≡◌, ℕ, suc, ◌+◌, ◌≤◌, Bool, true, false, List, ◌++◌, length, drop, map, slice_get, slice_set, Option, Some}
use Rattle.law_model.specs.World.{Event, Turn}
use Rattle.law_runs.specs.Histories.{EndsOr, IsRun, Picks}
use Rattle.law_runs.specs.Bus.{bus}
use Rattle.law_runs.specs.Laws.{Look, Shows}
use Rattle.pb_scenario.specs.Walks.{WalkView, plan_in}

-- from an index on a history has these events, up to another index
pub record Reads (all : List Event) (place : ℕ) (es : List Event) (next : ℕ) : Type 0 where
  pub cut : drop place all ≡ es ++ drop next all
  pub count : next ≡ place + length es
  pub inside : next ≤ length all

-- the rest of a history from an index on is cut into instants of the plan of a walk, from a moment on
abbrev pub IsCut : WalkView → List Look → List Event → ℕ → ℕ → ℕ → Type 0
IsCut walk looks all left now place = IsRun left bus (plan_in walk) (Shows looks) now place (drop place all)

-- an instant of a history: after it the history continues at a moment, if there is one, and from an index on
abbrev pub Goes : WalkView → List Look → List Event → ℕ → ℕ → Option ℕ → ℕ → Type 0
Goes walk looks all now place moment next = (left : ℕ)
    → EndsOr moment next (drop next all) (IsRun left bus (plan_in walk) (Shows looks))
    → IsCut walk looks all (suc left) now place

-- all of a history is cut into the instants of the plan of a walk
abbrev pub IsRunIn : WalkView → List Look → List Event → Type 0
IsRunIn walk looks all = IsRun (walk.until + 1) bus (plan_in walk) (Shows looks) 0 0 all

-- a history continues with one turn of each tap that wants one, in some order
abbrev pub ReadsWanted : List Event → ℕ → List Bool → ℕ → Type 0
ReadsWanted all place want next = (taps : List ℕ) × Reads all place (map Turn taps) next × Picks want taps

-- if the result is true, a tap wanted a turn and no longer does
abbrev pub Takes : List Bool → ℕ → List Bool → Bool → Type 0
Takes want tap next true = (slice_get want tap ≡ Some true) × (next ≡ slice_set want tap false)
Takes want tap next false = Unit {0}

-- a history continues with turns of some taps that wanted one, and none of them wants one afterwards
abbrev pub ReadsTurns : List Event → ℕ → List Bool → List Bool → ℕ → Type 0
ReadsTurns all place want next at = (taps : List ℕ) × Reads all place (map Turn taps) at × ((rest : List ℕ) → Picks next rest → Picks want (taps ++ rest))
