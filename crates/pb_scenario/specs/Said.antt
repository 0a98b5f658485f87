-- The events of a moment's steps before the turns or after them.
use Rattle.std.specs.Prelude.{List, Option}
use Rattle.std.specs.List.{filter_map}
use Rattle.law_model.specs.World.{Event}
use Rattle.law_runs.specs.Scenarios.{Deed, Planned, event_before, event_after}
use Rattle.pb_scenario.specs.declared.deeds.When.{When}
use Rattle.pb_scenario.specs.declared.deeds.When.TheVariants.{BeforeTurns, AfterTurns}

abbrev pub said_in : When → Deed → Option Event
said_in BeforeTurns deed = event_before deed
said_in AfterTurns deed = event_after deed

abbrev pub said_by : When → List Planned → List Event
said_by when steps = filter_map (λ s. said_in when s.deed) steps

-- the same of deeds
abbrev pub said_of : When → List Deed → List Event
said_of when deeds = filter_map (said_in when) deeds
