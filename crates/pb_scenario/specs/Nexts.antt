-- The position in a history after an instant.
use Rattle.std.specs.Prelude.{◌≡◌, ℕ, ◌<◌, ◌≤◌, List, length, slice_get, Some, IfSome}
use Rattle.pb_scenario.specs.declared.reports.Look as declared
use Rattle.pb_scenario.specs.Looks.{look_of}
use Rattle.law_model.specs.World.{Event}
use Rattle.law_runs.specs.Laws.{Look}
use Rattle.pb_scenario.specs.Walks.{WalkView}
use Rattle.pb_scenario.specs.declared.instants.Next.{Next}
use Rattle.pb_scenario.specs.Reading.{Goes}

-- an outlook has this index, was taken after this many events, and has this many taps
abbrev pub IsLookAt : List Look → ℕ → ℕ → ℕ → declared.Look → Type 0
IsLookAt looks k place taps look = (slice_get looks k ≡ Some (look_of look)) × (look.place ≡ place) × (length look.dues.now ≡ taps)

-- what is known of an instant that was read
pub record IsNext (walk : WalkView) (looks : List Look) (all : List Event) (place : ℕ) (next : Next) : Type 0 where
  pub goes : Goes walk looks all walk.clock place next.moment next.place
  pub inside : next.place ≤ length all
  pub later : IfSome next.moment (λ at. (walk.clock < at) × (at ≤ walk.until))
