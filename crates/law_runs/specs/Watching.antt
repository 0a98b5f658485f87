-- A list of events, followed by what is enough to decide which premise breaks first.
use Rattle.std.specs.Prelude.{◌≡◌, ℕ, ◌≤◌, Bool, true, false, List, [], ◌∷◌, Option, Some, None, IfSome}
use Rattle.std.specs.List.{list_any}
use Rattle.law_model.specs.World.{World, Event}
use Rattle.law_runs.specs.Premises.{Waited, Broken, Course, waited_by, meets, has_namesakes, loses, comes_late, first_number, broken_or}

-- the last tap that waited out its time-out, and the first premise that broke
pub record Watched : Type 0 where
  pub waited : Option Waited
  pub broken : Option Broken

abbrev pub meets_last : ℕ → Waited → Option Waited → Bool
meets_last delay one None = false
meets_last delay one (Some other) = meets delay one other

-- whether one of the taps that have waited out now meets another of them, or the last one before
abbrev pub new_meet : ℕ → List Waited → Option Waited → Bool
new_meet delay [] last = false
new_meet delay (one ∷ []) last = meets_last delay one last
new_meet delay (one ∷ other ∷ more) last = true

abbrev pub last_waited : List Waited → Option Waited → Option Waited
last_waited [] last = last
last_waited (one ∷ more) last = Some one

-- the values after an event that leads from one world to the next
abbrev pub watched_after : Watched → World → Event → World → Watched
watched_after v w e next =
    let new = waited_by next 0 next.taps in
    record {
      waited = last_waited new v.waited;
      broken = broken_or v.broken next.now (first_number (has_namesakes next.taps) (loses e) (comes_late w e) (new_meet next.params.ttd new v.waited));
    }

-- It decides as much as the events: as long as no premise is broken, the last tap that waited out its time-out decides
-- whether a later one meets any.
pub record StandsFor (v : Watched) (c : Course) : Type 0 where
  pub broken : v.broken ≡ c.broken
  pub before : IfSome v.waited (λ last. last.moment ≤ c.world.now)
  pub decides : c.broken ≡ None → (one : Waited) → c.world.now ≤ one.moment → list_any (meets c.world.params.ttd one) c.waited ≡ meets_last c.world.params.ttd one v.waited
