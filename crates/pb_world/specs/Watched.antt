-- A watched bus, and the events that led to it.
use Rattle.std.specs.Prelude.{◌≡◌, List, [], ◌∷◌, ◌++◌, Ok}
use Rattle.pb_timers.specs.Timers.{Params}
use Rattle.law_model.specs.Medium.{TapSpec}
use Rattle.law_model.specs.Trace.{Entry}
use Rattle.law_model.specs.World.{World, Event, new_world}
use Rattle.law_model.specs.Step.{step}
use Rattle.law_model.specs.Behind.{behind, IsPast}
use Rattle.law_runs.specs.Premises.{Course, followed}
use Rattle.law_runs.specs.Watching.{StandsFor}
use Rattle.pb_world.specs.Buses.{world_of, IsKept}
use Rattle.law_live.specs.Promises.{LeadTo}
use Rattle.pb_world.specs.Auditing.{Finds, IsLegalIfKept}
use Rattle.pb_world.specs.Premises.{Knows, KnowsOf, course_at, watched_of}
use Rattle.pb_world.specs.declared.findings.Audit.{Audit}
use Rattle.pb_world.specs.declared.watched.Watched.{Watched}

abbrev pub world_in : Watched → World
world_in w = world_of w.bus

-- the invariant of its fields
pub record IsWatched (w : Watched) : Type 0 where
  pub kept : IsKept w.bus
  pub knows : Knows w.watch (world_in w)

-- some events have led to it from a new world, and its watch represents all of them
pub record HasCome (w : Watched) (start : World) (events : List Event) : Type 0 where
  pub watched : IsWatched w
  pub lead : LeadTo start events (world_in w)
  pub here : (course_at start events).world ≡ world_in w
  pub stands : StandsFor (watched_of w.watch) (course_at start events)

-- one more event has led on from the events that led to it
abbrev pub GoesOnBy : Watched → Event → Watched → Type 0
GoesOnBy w e next = (start : World) (events : List Event) → HasCome w start events → HasCome next start (events ++ e ∷ [])

-- events have led to it from a new world
abbrev pub IsOfNew : Watched → Type 0
IsOfNew w = (p : Params) × (specs : List TapSpec) × (start : World) × (events : List Event) × (new_world p specs ≡ Ok start) × HasCome w start events

-- an audit finds what is to be found in the events that led to it, from whatever new world
abbrev pub FindsIn : Watched → Audit → Type 0
FindsIn w found = (p : Params) (specs : List TapSpec) (start : World) (events : List Event) → new_world p specs ≡ Ok start → HasCome w start events
    → Finds p specs events found × IsLegalIfKept found

-- ---- a bus whose past may be let go

-- valid events have led to the world of a course from the new world of a bus
abbrev pub IsOfRun : Course → Type 0
IsOfRun c = (start : World) × (events : List Event) × LeadTo start events c.world × (c ≡ course_at start events)

-- The watched bus is at the end of a course of events, in whose trace these entries stand in front of its own: they are
-- over, and were let go.
pub record IsAtEnd (w : Watched) (old : List Entry) (c : Course) : Type 0 where
  pub past : IsPast old (world_in w)
  pub here : c.world ≡ behind old (world_in w)
  pub knows : Knows w.watch (behind old (world_in w))
  pub stands : StandsFor (watched_of w.watch) c

-- its fields are kept, and its watch is that of a bus whose past may have been let go
pub record IsFollowed (w : Watched) : Type 0 where
  pub kept : IsKept w.bus
  pub knows : KnowsOf w.watch w.bus

-- an event leads on from whatever course has led to it
abbrev pub LeadsOnBy : Watched → Event → Watched → Type 0
LeadsOnBy w e next = (old : List Entry) (c : Course) → IsAtEnd w old c → IsAtEnd next old (followed c e (step c.world e))

-- these entries are let go, whatever course has led to it
abbrev pub LetsGoOf : List Entry → Watched → Watched → Type 0
LetsGoOf gone w next = (old : List Entry) (c : Course) → IsAtEnd w old c → IsAtEnd next (old ++ gone) c
