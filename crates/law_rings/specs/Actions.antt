-- A settled ring stays, and its rotation is bounded, where the data with which taps reply change between the events.
use Rattle.std.specs.Prelude.{◌≡◌, Bool, true, List, ◌++◌, None}
use Rattle.std.specs.List.{list_all}
use Rattle.pb_timers.specs.Timers.{Params}
use Rattle.pb_timers.specs.ParamRules.{IsValid}
use Rattle.law_model.specs.Medium.{TapSpec}
use Rattle.law_model.specs.World.{World}
use Rattle.law_token.specs.Actions.{Action, Happens, Sets, AreActions, LeadsTo, HasActed, first_broken_by}
use Rattle.law_rings.specs.Rotation.{is_calm, HasRingOf, RotatesFrom}
use Rattle.law_rings.specs.Settled.{is_settled}

-- calm events, and changes of data
abbrev pub is_calm_action : Action → Bool
is_calm_action (Happens e) = is_calm e
is_calm_action (Sets tap unit) = true

-- a world of a settled ring, and the next one after calm actions; the events among all actions keep the premises
pub record CalmActionsSince (w next : World) : Type 0 where
  pub p : Params
  pub specs : List TapSpec
  pub before : List Action
  pub actions : List Action
  pub start : World
  pub valid : IsValid p
  pub acted : HasActed p specs before start w
  pub settled : is_settled w ≡ true
  pub are : AreActions actions
  pub leads : LeadsTo w actions next
  pub calm : list_all is_calm_action actions ≡ true
  pub kept : first_broken_by start (before ++ actions) ≡ None

-- a ring stays
abbrev pub RingStaysByActions : Type 0
RingStaysByActions = (w next : World) → CalmActionsSince w next → HasRingOf w next

-- bounded rotation, within the same bound: a cycle may have a reply of any length
abbrev pub BoundedRotationByActions : Type 0
BoundedRotationByActions = (w next : World) → CalmActionsSince w next → RotatesFrom w next
