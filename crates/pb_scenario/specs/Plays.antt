-- The results of playing events and instants.
use Rattle.std.specs.Prelude.{◌≡◌, ℕ, suc, ◌<◌, ◌≤◌, Bool, List, [], ◌∷◌, ◌++◌, length, Option, Some, None, Result, Ok, Err, MatchResult, IfSome, if◌then◌else◌}
use Rattle.law_model.specs.World as model
use Rattle.law_runs.specs.Runs.{Plan, all, next_turn, run, with_front}
use Rattle.law_runs.specs.Bus.{bus, dues}
use Rattle.law_runs.specs.Scenarios as runs
use Rattle.pb_world.specs.Worlds.{due_at}
use Rattle.law_runs.specs.Scenarios.{Scenario}
pub use Rattle.pb_world.specs.RunTo.{run_with, turn_if}
use Rattle.pb_scenario.specs.Walks.{WalkView, plan_in}
use Rattle.pb_scenario.specs.declared.faults.RunFault.{RunFault}
use Rattle.pb_scenario.specs.declared.faults.RunFault.TheVariants.{New, At}
use Rattle.pb_scenario.specs.Faults.{model_fault}
use Rattle.pb_scenario.specs.Stages.{StageView, ComesOn}

-- a fault of a moment is that of an outcome, or memory was refused
abbrev pub Stops : {X : Type 0} → (ℕ × model.Fault → X) → RunFault → X → Type 0
Stops refused (New f) outcome = ⊥
Stops refused (At moment f) outcome = IfSome (model_fault f) (λ g. outcome ≡ refused (moment, g))

-- ---- events of a moment

-- they have happened, after those that led to the world
pub record Happened (now : ℕ) (old : StageView) (es : List model.Event) (new : StageView) : Type 0 where
  pub world : all bus now es old.world ≡ Ok new.world
  pub comes : ComesOn old es new

-- they happen, or the fault is that of the first refused one
abbrev pub Plays : {A : Type 0} → ℕ → StageView → List model.Event → Result A RunFault → StageView → Type 0
Plays now old es result new = MatchResult result (λ _. Happened now old es new) (λ fault. Stops Err fault (all bus now es old.world))

-- the first moment after now at which some tap may take a turn next
abbrev pub IsFirst : WalkView → StageView → Option ℕ → Type 0
IsFirst walk v first = first ≡ next_turn (plan_in walk) walk.clock 0 (dues v.world)

-- no tap is due before a moment
abbrev pub NoneBefore : ℕ → model.World → Type 0
NoneBefore moment w = (tap : ℕ) → tap < length w.taps → IfSome (due_at w tap) (λ at. moment ≤ at)

-- ---- instants

-- the events of an instant of a walk have happened, and after them the run continues at the next instant, if there is
-- one
pub record GoesOn (walk : WalkView) (old : StageView) (next : Option ℕ) (new : StageView) : Type 0 where
  pub events : List model.Event
  pub comes : ComesOn old events new
  pub rest : (before : List model.Event) (left : ℕ)
      → run_with before (plan_in walk) (suc left) (Some walk.clock) old.world ≡ run_with (before ++ events) (plan_in walk) left next new.world
  pub later : IfSome next (λ moment. (walk.clock < moment) × (moment ≤ walk.until))
  pub taps : length new.world.taps ≡ length old.world.taps

-- a fault ends the run of a walk in its instant, whatever happened before
abbrev pub EndsIn : WalkView → StageView → RunFault → Type 0
EndsIn walk old fault = (before : List model.Event) (left : ℕ) → Stops (λ refused. Some (Err refused)) fault (run_with before (plan_in walk) (suc left) (Some walk.clock) old.world)

-- an instant of a walk, or why the run ends in it
abbrev pub Goes : WalkView → StageView → Result (Option ℕ) RunFault → StageView → Type 0
Goes walk old result new = MatchResult result (λ next. GoesOn walk old next new) (EndsIn walk old)

-- ---- the run

-- the events of a scenario's run have led to a stage from a world
abbrev pub IsPlayed : Scenario → model.World → StageView → Type 0
IsPlayed s first v = (events : List model.Event) × (runs.events_of s ≡ Some (Ok events)) × v.comes first events
