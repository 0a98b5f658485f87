-- What an audit of a scenario's run finds.
use Rattle.std.specs.Prelude.{◌≡◌, List, Some, Ok}
use Rattle.law_model.specs.World.{Event}
use Rattle.law_runs.specs.Scenarios as runs
use Rattle.law_runs.specs.Scenarios.{Scenario}
use Rattle.pb_world.specs.Auditing.{Finds, IsLegalIfKept}
use Rattle.pb_world.specs.declared.findings.Audit.{Audit}

-- the run has events, and this is what an audit of them finds
abbrev pub FindsInRun : Scenario → Audit → Type 0
FindsInRun s found = (events : List Event) × (runs.events_of s ≡ Some (Ok events)) × Finds s.params s.taps events found × IsLegalIfKept found
