-- Why the run of a scenario ends early.
use Rattle.std.specs.Prelude.{◌≡◌, Option, Some, None, Err, IfSome}
use Rattle.law_model.specs.World as model
use Rattle.law_model.specs.World.{new_world}
use Rattle.pb_taps.specs.declared.faults.WorldFault.{WorldFault}
use Rattle.pb_taps.specs.declared.faults.WorldFault.TheVariants as fault
use Rattle.pb_taps.specs.Faults.{RefusesNew}
use Rattle.law_runs.specs.Scenarios as runs
use Rattle.law_runs.specs.Scenarios.{Scenario}
use Rattle.pb_scenario.specs.declared.faults.RunFault.{RunFault}
use Rattle.pb_scenario.specs.declared.faults.RunFault.TheVariants.{New, At}

-- the fault of a world that the model has; refused memory is none
abbrev pub model_fault : WorldFault → Option model.Fault
model_fault fault.NoSuchTap = Some model.NoSuchTap
model_fault fault.Running = Some model.Running
model_fault fault.NotRunning = Some model.NotRunning
model_fault fault.NothingInAir = Some model.NothingInAir
model_fault fault.ZeroTime = Some model.ZeroTime
model_fault (fault.TooFar furthest) = Some (model.TooFar furthest)
model_fault fault.ClockFull = Some model.ClockFull
model_fault fault.QueueFull = Some model.QueueFull
model_fault (fault.InboxFull tap) = Some (model.InboxFull tap)
model_fault fault.TraceFull = Some model.TraceFull
model_fault fault.NoMemory = None

-- why a scenario has no events: there is no new world; or its run ends with this fault at this moment; or memory was
-- refused
abbrev pub EndsBy : Scenario → RunFault → Type 0
EndsBy s (New f) = RefusesNew (new_world s.params s.taps) f
EndsBy s (At moment f) = IfSome (model_fault f) (λ g. runs.events_of s ≡ Some (Err (runs.At moment g)))
