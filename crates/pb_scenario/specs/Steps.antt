-- Steps as the plain data of runs.
use Rattle.std.specs.Prelude.{List, map}
use Rattle.pb_taps.specs.Events.{event_of}
use Rattle.law_runs.specs.Scenarios as runs
use Rattle.law_runs.specs.Scenarios.{Planned}
use Rattle.pb_scenario.specs.declared.deeds.Deed.{Deed}
use Rattle.pb_scenario.specs.declared.deeds.Deed.TheVariants as deed
use Rattle.pb_scenario.specs.declared.deeds.Step.{Step}

abbrev pub deed_of : Deed → runs.Deed
deed_of (deed.Happens event) = runs.Happens (event_of event)
deed_of (deed.Withhold tap bits) = runs.Withhold tap bits

abbrev pub planned_of : Step → Planned
planned_of s = record { at = s.at; deed = deed_of s.deed }

abbrev pub steps_of : List Step → List Planned
steps_of steps = map planned_of steps
