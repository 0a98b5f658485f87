-- The text for the run of a scenario by a fleet: its trace, the last lines of it, or the line of the fleet's fault.
use Rattle.std.specs.Prelude.{◌≡◌, ◌≢◌, ℕ, ◌⊎◌, List, [], length, min, max, codes, Option, Some, None, Result, Ok, Err}
use Rattle.law_model.specs.Trace.{Entry}
use Rattle.law_model.specs.World.{new_world}
use Rattle.pb_taps.specs.declared.faults.NewFault.TheVariants as new
use Rattle.pb_taps.specs.declared.faults.WorldFault.TheVariants as world
use Rattle.law_runs.specs.Scenarios.{trace_of}
use Rattle.pb_fleet.specs.CommitFault.{CommitFault}
use Rattle.pb_fleet.specs.CommitFault.TheVariants as commit
use Rattle.pb_fleet.specs.declared.faults.FleetFault.{FleetFault}
use Rattle.pb_fleet.specs.declared.faults.FleetFault.TheVariants as fleet
use Rattle.pb_fleet.specs.Faults.{RefusesFleet}
use Rattle.pb_scenario.specs.Fields.{Fault}
use Rattle.pb_scenario.specs.Scenarios.{ScenarioView}
use Rattle.pb_texts.specs.Shown.{Shown, refusal}
use Rattle.pb_texts.specs.Faults.{new_line, refused_line, scenario_line}
use Rattle.pb_texts.specs.Files.{scenario_of}
use Rattle.pb_texts.specs.Plays.{trace_shown}

-- ---- a fleet's fault

-- the line of an event that a segment refuses, with the clock
abbrev pub commit_line : CommitFault → ℕ → List ℕ
commit_line commit.WrongTap clock = codes "wrong tap\n"
commit_line commit.Disagree clock = codes "disagree\n"
commit_line (commit.Stale turns now) clock = codes "stale\n"
commit_line (commit.World f) clock = refused_line f clock
commit_line commit.HistoryFull clock = codes "history full\n"

-- a valid number of workers is not refused, and refused memory has no line
abbrev pub fleet_line : FleetFault → List ℕ
fleet_line fleet.BadWorkers = []
fleet_line (fleet.Commit tap now f) = commit_line f now
fleet_line (fleet.Drive now f) = commit_line f now
fleet_line (fleet.GateClosed tap) = codes "gate closed\n"
fleet_line fleet.NoThread = codes "no thread\n"
fleet_line (fleet.Closing f) = codes "disagree\n"
fleet_line fleet.NoMemory = []
fleet_line (fleet.New f) = new_line f

-- a fault other than refused memory
abbrev pub IsToldCommit : CommitFault → Type 0
IsToldCommit commit.WrongTap = Unit {0}
IsToldCommit commit.Disagree = Unit {0}
IsToldCommit (commit.Stale turns now) = Unit {0}
IsToldCommit (commit.World f) = f ≢ world.NoMemory
IsToldCommit commit.HistoryFull = Unit {0}

abbrev pub IsToldFleet : FleetFault → Type 0
IsToldFleet fleet.BadWorkers = ⊥
IsToldFleet (fleet.Commit tap now f) = IsToldCommit f
IsToldFleet (fleet.Drive now f) = IsToldCommit f
IsToldFleet (fleet.GateClosed tap) = Unit {0}
IsToldFleet fleet.NoThread = Unit {0}
IsToldFleet (fleet.Closing f) = Unit {0}
IsToldFleet fleet.NoMemory = ⊥
IsToldFleet (fleet.New f) = f ≢ new.NoMemory

-- ---- a file

-- the number of workers: as asked for, else one for each tap, at least 1 and at most 64
abbrev pub crew_of : Option ℕ → ℕ → ℕ
crew_of (Some workers) taps = workers
crew_of None taps = max 1 (min taps 64)

-- the trace of the scenario's run on one thread, or its last lines
abbrev pub IsTrace : ScenarioView → Option ℕ → Shown → Type 0
IsTrace s last shown = (entries : List Entry) × (trace_of s.scenario ≡ Some (Ok entries)) × (shown ≡ trace_shown last s.names entries)

-- that, or the line of a fault of a fleet with this many workers
abbrev pub IsRun : ScenarioView → ℕ → Option ℕ → Shown → Type 0
IsRun s workers last shown =
    IsTrace s last shown
    ⊎ ((f : FleetFault) × RefusesFleet workers (new_world s.scenario.params s.scenario.taps) f × IsToldFleet f × (shown ≡ refusal (fleet_line f)))

abbrev pub IsRunOrFault : Result ScenarioView (Option Fault) → Option ℕ → Option ℕ → Shown → Type 0
IsRunOrFault (Ok s) workers last shown = IsRun s (crew_of workers (length s.scenario.taps)) last shown
IsRunOrFault (Err fault) workers last shown = shown ≡ refusal (scenario_line fault)

abbrev pub IsRunOf : List ℕ → Option ℕ → Option ℕ → Shown → Type 0
IsRunOf file = IsRunOrFault (scenario_of file)
