-- The line of a fault: of a file, of a new world, and of a run.
use Rattle.std.specs.Prelude.{◌≢◌, ℕ, List, ◌++◌, codes, decimal, Option, Some, None}
use Rattle.std.specs.String.{string_bytes}
use Rattle.pb_timers.specs.ParamWords as params
use Rattle.pb_taps.specs.declared.faults.NewFault.{NewFault}
use Rattle.pb_taps.specs.declared.faults.NewFault.TheVariants as new
use Rattle.pb_taps.specs.declared.faults.WorldFault.{WorldFault}
use Rattle.pb_taps.specs.declared.faults.WorldFault.TheVariants as fault
use Rattle.pb_taps.specs.Faults.{number_of, number_of_new, new_fault, world_fault}
use Rattle.law_runs.specs.Scenarios as runs
use Rattle.pb_scenario.specs.Fields.{Fault, BadVersion, Missing, BadKind, BadValue, Unknown, Twice, NoSuchName, StepOrder, Params, TooMany}
use Rattle.pb_scenario.specs.declared.faults.ScenarioFault.{ScenarioFault}
use Rattle.pb_scenario.specs.declared.faults.ScenarioFault.TheVariants as code
use Rattle.pb_scenario.specs.declared.faults.RunFault.{RunFault}
use Rattle.pb_scenario.specs.declared.faults.RunFault.TheVariants as run
use Rattle.pb_texts.specs.Names.{new_name, world_name, key_text, path_text}

-- ---- a file

-- the number and the name of a fault of a table, with its path or its number
abbrev pub fault_words : Fault → List ℕ
fault_words BadVersion = codes "2 BadVersion"
fault_words (Missing path) = codes "3 Missing " ++ path_text path
fault_words (BadKind path) = codes "4 BadKind " ++ path_text path
fault_words (BadValue path) = codes "5 BadValue " ++ path_text path
fault_words (Unknown section key) = codes "6 Unknown " ++ key_text section key
fault_words (Twice path) = codes "7 Twice " ++ path_text path
fault_words (NoSuchName path) = codes "8 NoSuchName " ++ path_text path
fault_words (StepOrder path) = codes "9 StepOrder " ++ path_text path
fault_words (Params f) = codes "10 Params " ++ decimal (params.number_of f)
fault_words TooMany = codes "11 TooMany"

-- a file that is not TOML has no table
abbrev pub file_words : Option Fault → List ℕ
file_words None = codes "1 NotToml"
file_words (Some f) = fault_words f

abbrev pub scenario_line : Option Fault → List ℕ
scenario_line f = codes "scenario fault " ++ file_words f ++ codes "\n"

-- the fault of the table, if it is one
abbrev pub table_fault : ScenarioFault → Option Fault
table_fault code.NotToml = None
table_fault code.BadVersion = Some BadVersion
table_fault (code.Missing path) = Some (Missing path)
table_fault (code.BadKind path) = Some (BadKind path)
table_fault (code.BadValue path) = Some (BadValue path)
table_fault (code.Unknown key) = Some (Unknown key.section (string_bytes key.key))
table_fault (code.Twice path) = Some (Twice path)
table_fault (code.NoSuchName path) = Some (NoSuchName path)
table_fault (code.StepOrder path) = Some (StepOrder path)
table_fault (code.Params f) = Some (Params f)
table_fault code.TooMany = Some TooMany
table_fault code.NoMemory = None

-- ---- a run

abbrev pub new_line : NewFault → List ℕ
new_line f = codes "world fault " ++ decimal (number_of_new f) ++ codes " " ++ new_name f ++ codes "\n"

-- the fault of an event, with the clock at which it was refused
abbrev pub refused_line : WorldFault → ℕ → List ℕ
refused_line f clock =
    codes "run fault " ++ decimal (number_of f) ++ codes " " ++ world_name f ++ codes " at " ++ decimal clock ++ codes "\n"

abbrev pub run_line : runs.RunFault → List ℕ
run_line (runs.New f) = new_line (new_fault f)
run_line (runs.At clock f) = refused_line (world_fault f) clock

-- the same for a fault in the code's type
abbrev pub line_of_run : RunFault → List ℕ
line_of_run (run.New f) = new_line f
line_of_run (run.At clock f) = refused_line f clock

-- a fault other than refused memory
abbrev pub IsTold : RunFault → Type 0
IsTold (run.New f) = f ≢ new.NoMemory
IsTold (run.At clock f) = f ≢ fault.NoMemory
