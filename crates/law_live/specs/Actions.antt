-- What is promised of the worlds that actions leave: events, and changes of data between them.
use Rattle.std.specs.Prelude.{◌≡◌, List, [], ◌++◌, None}
use Rattle.pb_timers.specs.Timers.{Params}
use Rattle.pb_timers.specs.ParamRules.{IsValid}
use Rattle.law_model.specs.Medium.{TapSpec}
use Rattle.law_model.specs.World.{World, IsNewWorld}
use Rattle.law_model.specs.Laws.{AllFit}
use Rattle.law_token.specs.Actions.{Action, AreActions, LeadsTo, HasActed, first_broken_by, NoneActsLate}
use Rattle.law_token.specs.Promises.{HasOneToken, LeavesNoneInSilence}
use Rattle.law_live.specs.NeverDead.{HasAToken}

-- the bus is never dead, whatever data the taps reply
abbrev pub NeverDeadByActions : Type 0
NeverDeadByActions = (p : Params) (specs : List TapSpec) (actions : List Action) (new w : World) → IsValid p → HasActed p specs actions new w
    → first_broken_by new actions ≡ None → HasAToken w

-- actions have led to a world from the new world of a bus, with valid parameters, data and requests
pub record ActedTo (start : World) (actions : List Action) (w : World) : Type 0 where
  pub p : Params
  pub specs : List TapSpec
  pub valid : IsValid p
  pub acted : HasActed p specs actions start w

-- The promises about the world, as after events alone: one token and a bus that is not dead, if the events break no
-- premise; nobody in silence for longer than its bound, if none of them loses a telegram or lets a turn be late.
pub record KeepsPromisesBy (start : World) (actions : List Action) (w : World) : Type 0 where
  pub token : first_broken_by start actions ≡ None → HasOneToken w
  pub live : first_broken_by start actions ≡ None → HasAToken w
  pub silence : NoneActsLate start actions → LeavesNoneInSilence w

-- actions lead on from a world to the next, which keeps the promises
abbrev pub ActOn : World → List Action → World → Type 0
ActOn w actions next = (start : World) (before : List Action) → ActedTo start before w
    → ActedTo start (before ++ actions) next × KeepsPromisesBy start (before ++ actions) next

abbrev pub ActionsLeadOn : Type 0
ActionsLeadOn = (w next : World) (actions : List Action) → AreActions actions → LeadsTo w actions next → ActOn w actions next

-- no actions have led to the new world of a bus, and it keeps the promises
abbrev pub NewWorldsAct : Type 0
NewWorldsAct = (p : Params) (specs : List TapSpec) (w : World) → IsValid p → AllFit specs → IsNewWorld p specs w → ActedTo w [] w × KeepsPromisesBy w [] w
