-- A bus that counts its events.
use Rattle.pb_world.specs.Buses.{world_of, IsKept}
use Rattle.pb_scenario.specs.declared.courses.Counted.{Counted}
use Rattle.pb_scenario.specs.Stages.{StageView}

-- whatever world it began in, and whatever events led to it
abbrev pub counted_view : Counted → StageView
counted_view c = record { world = world_of c.bus; comes = λ start events. IsKept c.bus }
