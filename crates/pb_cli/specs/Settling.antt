-- How a call ends that writes a run as it settles.
use Rattle.std.specs.Prelude.{◌≡◌, ℕ, List, [], Option, Some, None, is_some}
use Rattle.law_runs.specs.Scenarios.{RunFault, New, At}
use Rattle.pb_texts.specs.Faults.{run_line}
use Rattle.pb_cli.specs.Statuses.{status_of}
use Rattle.pb_cli.specs.declared.settled.Settled.{Settled}

-- no fault, or that of an event
abbrev pub IsOfRun : Option RunFault → Type 0
IsOfRun None = Unit {0}
IsOfRun (Some (At clock fault)) = Unit {0}
IsOfRun (Some (New fault)) = ⊥

-- what is returned beside: the line of the event that is refused
abbrev pub line_beside : Option RunFault → List ℕ
line_beside None = []
line_beside (Some (At clock fault)) = run_line (At clock fault)
line_beside (Some (New fault)) = []

-- the status and the line say of a stream what fault ends it
abbrev pub Says : Settled → Option RunFault → Type 0
Says ended fault = (ended.status ≡ status_of (is_some fault)) × (ended.line.items ≡ line_beside fault)
