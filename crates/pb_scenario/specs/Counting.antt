-- A bus with the number of its events.
use Rattle.std.specs.Prelude.{◌≡◌, List, length}
use Rattle.law_model.specs.Step.{RunsTo}
use Rattle.law_model.specs.World.{World, Event}
use Rattle.pb_world.specs.Buses.{world_of, IsKept}
use Rattle.pb_scenario.specs.declared.traces.Counted.{Counted}
use Rattle.pb_scenario.specs.Stages.{StageView}

-- so many events have led to it from a world
pub record HasCounted (c : Counted) (start : World) (events : List Event) : Type 0 where
  pub kept : IsKept c.bus
  pub leads : RunsTo start events (world_of c.bus)
  pub count : c.events ≡ length events

abbrev pub counted_view : Counted → StageView
counted_view c = record { world = world_of c.bus; comes = HasCounted c }
