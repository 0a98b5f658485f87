-- What the calls of a world promise about the worlds that they leave, by the events that led to them.
use Rattle.std.specs.Prelude.{◌≡◌, List, [], ◌++◌, None}
use Rattle.pb_timers.specs.Timers.{Params}
use Rattle.pb_timers.specs.ParamRules.{IsValid}
use Rattle.law_model.specs.Medium.{TapSpec}
use Rattle.law_model.specs.World.{World, Event, IsNewWorld}
use Rattle.law_model.specs.Step.{RunsTo}
use Rattle.law_model.specs.Laws.{AllFit, AreEvents}
use Rattle.law_runs.specs.Headline.{NoneLosesOrComesLate}
use Rattle.law_runs.specs.Premises.{first_broken}
use Rattle.law_token.specs.Promises.{HasRun, HasOneToken, LeavesNoneInSilence}
use Rattle.law_live.specs.NeverDead.{HasAToken}

-- Events have led to a world from the new world of a bus. Its parameters, the data with which its taps reply and the
-- requests of the events are valid, as their types ensure.
pub record LeadTo (start : World) (events : List Event) (w : World) : Type 0 where
  pub p : Params
  pub specs : List TapSpec
  pub valid : IsValid p
  pub run : HasRun p specs events start w

-- The promises about the world. `token`: if the events break no premise, at most one station may initiate, the trace
-- names it, and each initiator telegram is legal. `live`: then no master has been for longer than its bound without a
-- token and without noise. `silence`: if none of the events loses a telegram or lets a turn be late, no master has been
-- in silence for longer than its bound.
pub record KeepsPromises (start : World) (events : List Event) (w : World) : Type 0 where
  pub token : first_broken start events ≡ None → HasOneToken w
  pub live : first_broken start events ≡ None → HasAToken w
  pub silence : NoneLosesOrComesLate start events → LeavesNoneInSilence w

-- Events lead on from a world to the next, which keeps the promises: given any events that led to the first world, by
-- these and the new ones.
abbrev pub LeadOn : World → List Event → World → Type 0
LeadOn w events next = (start : World) (before : List Event) → LeadTo start before w
    → LeadTo start (before ++ events) next × KeepsPromises start (before ++ events) next

abbrev pub RunsLeadOn : Type 0
RunsLeadOn = (w next : World) (events : List Event) → AreEvents events → RunsTo w events next → LeadOn w events next

-- no events have led to the new world of a bus, and it keeps the promises
abbrev pub NewWorldsBegin : Type 0
NewWorldsBegin = (p : Params) (specs : List TapSpec) (w : World) → IsValid p → AllFit specs → IsNewWorld p specs w → LeadTo w [] w × KeepsPromises w [] w
