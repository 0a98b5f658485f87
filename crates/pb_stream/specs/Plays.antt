-- The results of playing events and instants, up to the event that is refused.
use Rattle.std.specs.Prelude.{◌≡◌, ℕ, suc, ◌<◌, ◌≤◌, List, Option, Some, Result, Ok, Err, MatchResult, IfSome}
use Rattle.law_model.specs.Trace.{Entry}
use Rattle.law_model.specs.World.{Event, Fault}
use Rattle.pb_taps.specs.declared.faults.WorldFault.{WorldFault}
use Rattle.law_runs.specs.Premises.{Course}
use Rattle.law_runs.specs.Bus.{dues}
use Rattle.law_runs.specs.Runs.{all, ending, next_turn, run, turns}
use Rattle.law_streams.specs.Audits.{watched_bus}
use Rattle.pb_scenario.specs.Faults.{model_fault}
use Rattle.pb_scenario.specs.Walks.{WalkView, plan_in}
use Rattle.pb_world.specs.Buses.{world_of}
use Rattle.pb_stream.specs.Courses.{Reaches}
use Rattle.pb_stream.specs.Stages.{StageView, GoesFrom, IsAt}

-- ---- events of a moment

-- they have happened after a course
abbrev pub HappenedAt : ℕ → List Entry → Course → List Event → StageView → Type 0
HappenedAt now old c es new = (after : Course) × GoesFrom new old after × (all watched_bus now es c ≡ Ok after)

-- the first of them that is refused is refused after a course, with this fault
abbrev pub StoppedAt : ℕ → List Entry → Course → List Event → Fault → StageView → Type 0
StoppedAt now old c es f new = (after : Course) × IsAt new old after × (all watched_bus now es c ≡ Err (now, (after, f)))

-- they happen, or one of them is refused; refused memory is no fault of the run
abbrev pub PlayedAt : {A : Type 0} → ℕ → List Entry → Course → List Event → Result A WorldFault → StageView → Type 0
PlayedAt now old c es result new = MatchResult result (λ _. HappenedAt now old c es new) (λ fault. IfSome (model_fault fault) (λ f. StoppedAt now old c es f new))

-- at any moment, after whatever course has led to the stage
abbrev pub Plays : {A : Type 0} → StageView → List Event → Result A WorldFault → StageView → Type 0
Plays v es result new = (now : ℕ) (old : List Entry) (c : Course) → GoesFrom v old c → PlayedAt now old c es result new

-- the turns of an instant
abbrev pub PlaysTurns : {A : Type 0} → WalkView → StageView → Result A WorldFault → StageView → Type 0
PlaysTurns walk v result new = (old : List Entry) (c : Course) → GoesFrom v old c
    → PlayedAt walk.clock old c (turns watched_bus (plan_in walk) walk.clock c) result new

-- the events that steps trigger after the turns
abbrev pub PlaysLate : {A : Type 0} → WalkView → StageView → Result A WorldFault → StageView → Type 0
PlaysLate walk v result new = Plays v ((plan_in walk).late walk.clock) result new

-- the first moment after now at which some tap may take a turn next
abbrev pub IsFirst : WalkView → StageView → Option ℕ → Type 0
IsFirst walk v first = first ≡ next_turn (plan_in walk) walk.clock 0 (dues (world_of v.bus))

-- the same of a stage, after whatever course has led to the one before
abbrev pub FindsFirst : WalkView → (v new : StageView) → Option ℕ → Type 0
FindsFirst walk v new first = (old : List Entry) (c : Course) → GoesFrom v old c → IsFirst walk new first

-- ---- instants

-- the events of an instant of a walk have happened, and then the run goes on at the next instant, if there is one
pub record GoesOn (walk : WalkView) (old : List Entry) (c : Course) (next : Option ℕ) (new : StageView) : Type 0 where
  pub after : Course
  pub from : GoesFrom new old after
  pub reached : Reaches c after
  pub events : List Event
  pub rest : (left : ℕ) → run (suc left) watched_bus (plan_in walk) walk.clock c ≡ ending next events after (run left watched_bus (plan_in walk))

-- an event of the instant is refused, and that ends the run
pub record StopsIn (walk : WalkView) (old : List Entry) (c : Course) (f : Fault) (new : StageView) : Type 0 where
  pub after : Course
  pub at : IsAt new old after
  pub reached : Reaches c after
  pub rest : (left : ℕ) → run (suc left) watched_bus (plan_in walk) walk.clock c ≡ Some (Err (walk.clock, (after, f)))

-- after whatever course has led to the stage
abbrev pub Goes : WalkView → StageView → Result (Option ℕ) WorldFault → StageView → Type 0
Goes walk v result new = (old : List Entry) (c : Course) → GoesFrom v old c
    → MatchResult result (λ next. GoesOn walk old c next new) (λ fault. IfSome (model_fault fault) (λ f. StopsIn walk old c f new))

-- the next instant is later, not past the end, and not past the next step
pub record IsNext (walk : WalkView) (at : ℕ) : Type 0 where
  pub later : walk.clock < at
  pub in_time : at ≤ walk.until
  pub not_past : IfSome ((plan_in walk).later walk.clock) (λ step. at ≤ step)
