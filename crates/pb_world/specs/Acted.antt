-- A watched bus, and the actions that led to it: events, and between them changes of the data with which taps reply.
use Rattle.std.specs.Prelude.{◌≡◌, List, [], ◌∷◌, ◌++◌, None}
use Rattle.std.specs.Option.{option_map}
use Rattle.law_model.specs.Behind.{behind}
use Rattle.law_model.specs.Trace.{Entry}
use Rattle.law_model.specs.World.{World}
use Rattle.law_runs.specs.Headline.{specs_of}
use Rattle.law_runs.specs.Legality.{first_illegal}
use Rattle.law_runs.specs.Premises.{Course}
use Rattle.law_token.specs.Actions.{Action, LeadsTo, course_by, first_broken_by}
use Rattle.law_live.specs.Actions.{ActedTo, KeepsPromisesBy}
use Rattle.pb_world.specs.Auditing.{broken_at, IsLegalIfKept}
use Rattle.pb_world.specs.Judges.{HasHeard}
use Rattle.pb_world.specs.Watched.{IsAtEnd, IsFollowed, world_in}
use Rattle.pb_world.specs.declared.driven.Driven.{Driven}
use Rattle.pb_world.specs.declared.findings.Audit.{Audit}
use Rattle.pb_world.specs.declared.watched.Watched.{Watched}

-- the course of some actions from a new world
abbrev pub course_from : World → List Action → Course
course_from w actions = course_by (record { world = w; waited = []; broken = None }) actions

-- Some actions have led from a new world to it with some entries in front of its own, which were let go; its watch
-- represents the events among the actions.
pub record HasActed (w : Watched) (gone : List Entry) (start : World) (actions : List Action) : Type 0 where
  pub followed : IsFollowed w
  pub lead : ActedTo start actions (behind gone (world_in w))
  pub at : IsAtEnd w gone (course_from start actions)

-- one more action has led on from the actions that led to it
abbrev pub ActsOnBy : Watched → Action → Watched → Type 0
ActsOnBy w a next = (gone : List Entry) (start : World) (actions : List Action) → HasActed w gone start actions → HasActed next gone start (actions ++ a ∷ [])

-- ---- with a judge

-- the same, and its judge has heard the entries that were let go
pub record IsDrivenBy (b : Driven) (gone : List Entry) (start : World) (actions : List Action) : Type 0 where
  pub acted : HasActed b.watched gone start actions
  pub heard : HasHeard start.params (specs_of start) gone b.judge

-- actions have led to it from a new world
abbrev pub IsOfActions : Driven → Type 0
IsOfActions b = (gone : List Entry) × (start : World) × (actions : List Action) × IsDrivenBy b gone start actions

-- the first premise that the events among the actions break, and the first illegal record of the trace that they lead to
abbrev pub FindsActed : World → List Action → Audit → Type 0
FindsActed start actions found = (w : World) × LeadsTo start actions w
    × (option_map broken_at found.premise ≡ first_broken_by start actions) × (found.illegal ≡ first_illegal w.params (specs_of w) w.trace) × KeepsPromisesBy start actions w

-- an audit finds what is to be found in the actions that led to it, from whatever new world, and whatever was let go
abbrev pub FindsBy : Driven → Audit → Type 0
FindsBy b found = (gone : List Entry) (start : World) (actions : List Action) → IsDrivenBy b gone start actions
    → FindsActed start actions found × IsLegalIfKept found
