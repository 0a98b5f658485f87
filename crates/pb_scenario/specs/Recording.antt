-- A bus with its events.
use Rattle.std.specs.Prelude.{◌≡◌, List, map}
use Rattle.law_model.specs.World.{World, Event}
use Rattle.pb_taps.specs.Events.{event_of}
use Rattle.pb_world.specs.Buses.{world_of, IsKept}
use Rattle.pb_scenario.specs.declared.recorded.Recorded.{Recorded}
use Rattle.pb_scenario.specs.Stages.{StageView}

-- these are its events, whatever world it began in
pub record HasTaken (r : Recorded) (start : World) (events : List Event) : Type 0 where
  pub kept : IsKept r.bus
  pub taken : map event_of r.events.items ≡ events

abbrev pub recorded_view : Recorded → StageView
recorded_view r = record { world = world_of r.bus; comes = HasTaken r }
