-- The scenario in the bytes of a file, and the text for its audit.
use Rattle.std.specs.Prelude.{◌≡◌, ◌≢◌, ℕ, List, Option, Some, None, Result, Ok, Err, if◌then◌else◌}
use Rattle.std.specs.Str.{is_utf8}
use Rattle.toml.specs.Data.{Members}
use Rattle.toml.specs.Parse.{parse_document}
use Rattle.pb_scenario.specs.declared.faults.ScenarioFault.{ScenarioFault}
use Rattle.pb_scenario.specs.declared.faults.ScenarioFault.TheVariants as code
use Rattle.pb_scenario.specs.Fields.{Fault}
use Rattle.pb_scenario.specs.Files.{scenario_in}
use Rattle.pb_scenario.specs.Repeats.{StreamView}
use Rattle.pb_scenario.specs.Scenarios.{ScenarioView}
use Rattle.pb_scenario.specs.StreamFiles.{stream_in}
use Rattle.pb_texts.specs.Shown.{Shown, refusal}
use Rattle.pb_texts.specs.Faults.{scenario_line, table_fault}
use Rattle.pb_texts.specs.Audits.{audit_of_scenario}

-- the table of a file, if it is TOML in UTF-8
abbrev pub table_of : List ℕ → Option Members
table_of file = if is_utf8 file then parse_document file else None

-- why a file describes no scenario: a fault of its table, or none if it has no table
abbrev pub in_table : {X : Type 0} → Result X Fault → Result X (Option Fault)
in_table (Ok s) = Ok s
in_table (Err fault) = Err (Some fault)

abbrev pub described : {X : Type 0} → (Members → Result X Fault) → Option Members → Result X (Option Fault)
described read None = Err None
described read (Some top) = in_table (read top)

abbrev pub scenario_of : List ℕ → Result ScenarioView (Option Fault)
scenario_of file = described scenario_in (table_of file)

-- the scenario for a stream
abbrev pub stream_scenario_of : List ℕ → Result StreamView (Option Fault)
stream_scenario_of file = described stream_in (table_of file)

-- this is the fault for which a file describes no scenario, or memory was refused
abbrev pub Refuses : List ℕ → ScenarioFault → Type 0
Refuses file fault = fault ≢ code.NoMemory → scenario_of file ≡ Err (table_fault fault)

abbrev pub RefusesStream : List ℕ → ScenarioFault → Type 0
RefusesStream file fault = fault ≢ code.NoMemory → stream_scenario_of file ≡ Err (table_fault fault)

-- the audit of a file's run, or the line of its fault
abbrev pub audit_or_fault : Result ScenarioView (Option Fault) → Shown
audit_or_fault (Ok s) = audit_of_scenario s.scenario
audit_or_fault (Err fault) = refusal (scenario_line fault)

abbrev pub audit_of : List ℕ → Shown
audit_of file = audit_or_fault (scenario_of file)
