-- What a caller does at a bus: events happen, and between them the data of taps change. The premises are judged on the
-- events alone.
use Rattle.std.specs.Prelude.{◌≡◌, ℕ, true, List, [], ◌∷◌, Option, None, Result, Ok, Err}
use Rattle.law_turn.specs.Laws.{Fits}
use Rattle.pb_timers.specs.Timers.{Params}
use Rattle.pb_timers.specs.ParamRules.{IsValid}
use Rattle.law_model.specs.Medium.{TapSpec}
use Rattle.law_model.specs.World.{World, Event, Reply, Fault, IsNewWorld}
use Rattle.law_model.specs.Step.{step}
use Rattle.law_model.specs.Laws.{AllFit, IsEvent}
use Rattle.law_runs.specs.Headline.{HasAtMostOneHolder}
use Rattle.law_runs.specs.Premises.{Broken, Course, loses, comes_late, followed}
use Rattle.law_token.specs.Data.{set_data}
use Rattle.law_token.specs.Places.{LeavesTime}
use Rattle.law_token.specs.Promises.{HasOneToken, LeavesNoneInSilence}

pub data Action : Type 0 where
  -- an event happens
  Happens : Event → Action
  -- the data with which a tap replies change
  Sets : (tap : ℕ) (unit : List ℕ) → Action

-- a valid event, or data that fit in a telegram
abbrev pub IsAction : Action → Type 0
IsAction (Happens e) = IsEvent e
IsAction (Sets tap unit) = Fits unit

abbrev pub AreActions : List Action → Type 0
AreActions [] = Unit {0}
AreActions (a ∷ more) = IsAction a × AreActions more

-- ---- runs

-- an action that is accepted leads to a world
abbrev pub ActsTo : World → Action → World → Type 0
ActsTo w (Happens e) next = (reply : Reply) × (step w e ≡ Ok (next, reply))
ActsTo w (Sets tap unit) next = set_data w tap unit ≡ Ok next

abbrev pub LeadsTo : World → List Action → World → Type 0
LeadsTo w [] next = w ≡ next
LeadsTo w (a ∷ more) next = (between : World) × ActsTo w a between × LeadsTo between more next

-- some actions have led from the new world of a bus with these taps to a world
pub record HasActed (p : Params) (specs : List TapSpec) (actions : List Action) (new w : World) : Type 0 where
  pub fit : AllFit specs
  pub are : AreActions actions
  pub made : IsNewWorld p specs new
  pub leads : LeadsTo new actions w

-- ---- the premises

-- other data change the world of a course, and nothing else of it
abbrev pub with_world : Course → Result World Fault → Course
with_world c (Err fault) = c
with_world c (Ok next) = record c { world = next }

abbrev pub acted : Course → Action → Course
acted c (Happens e) = followed c e (step c.world e)
acted c (Sets tap unit) = with_world c (set_data c.world tap unit)

abbrev pub course_by : Course → List Action → Course
course_by c [] = c
course_by c (a ∷ more) = course_by (acted c a) more

-- the first premise that the events among some actions break
abbrev pub first_broken_by : World → List Action → Option Broken
first_broken_by w actions = (course_by (record { world = w; waited = []; broken = None }) actions).broken

-- actions of which no event loses a telegram or lets a turn be late
abbrev pub NoneActsLate : World → List Action → Type 0
NoneActsLate w [] = Unit {0}
NoneActsLate w (Happens e ∷ more) = (loses e ≡ true → ⊥) × (comes_late w e ≡ true → ⊥) × ((next : World) (reply : Reply) → step w e ≡ Ok (next, reply) → NoneActsLate next more)
NoneActsLate w (Sets tap unit ∷ more) = (next : World) → set_data w tap unit ≡ Ok next → NoneActsLate next more

-- ---- the laws

-- the token theorem for actions, for every cable delay that the parameters leave time for
abbrev pub TokenTheoremOfActions : Type 0
TokenTheoremOfActions = (p : Params) (specs : List TapSpec) (actions : List Action) (new w : World) → LeavesTime p → HasActed p specs actions new w
    → first_broken_by new actions ≡ None → HasAtMostOneHolder w

-- as readers of a world need it
abbrev pub OneTokenOfActions : Type 0
OneTokenOfActions = (p : Params) (specs : List TapSpec) (actions : List Action) (new w : World) → IsValid p → HasActed p specs actions new w
    → first_broken_by new actions ≡ None → HasOneToken w

-- the silence bound for actions
abbrev pub NoneInSilenceOfActions : Type 0
NoneInSilenceOfActions = (p : Params) (specs : List TapSpec) (actions : List Action) (new w : World) → IsValid p → HasActed p specs actions new w
    → NoneActsLate new actions → LeavesNoneInSilence w
