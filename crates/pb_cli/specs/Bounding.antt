-- What goes out for the bounds of a file's bus.
use Rattle.std.specs.Prelude.{ℕ, ◌≤◌, Bool, true, false, List, Option, Some, None, Result, Ok, Err}
use Rattle.pb_taps.specs.Faults.{new_fault}
use Rattle.law_model.specs.World.{NewFault}
use Rattle.pb_scenario.specs.Fields.{Fault}
use Rattle.pb_scenario.specs.Repeats.{StreamView}
use Rattle.pb_scenario.specs.Scenarios.{ScenarioView}
use Rattle.pb_texts.specs.Bounds.{world_fault}
use Rattle.pb_texts.specs.Texts.{bounds_json, bounds_text}
use Rattle.pb_texts.specs.Shown.{Shown, refusal}
use Rattle.pb_texts.specs.Faults.{new_line, scenario_line}
use Rattle.pb_texts.specs.Files.{stream_scenario_of}

-- bits a second that a bus may have
abbrev pub IsBaud : ℕ → Type 0
IsBaud baud = (9600 ≤ baud) × (baud ≤ 12000000)

abbrev pub text_of : (baud : ℕ) (json : Bool) → ScenarioView → List ℕ
text_of baud true s = bounds_json baud s
text_of baud false s = bounds_text baud s

-- the bounds, or the line of the fault of the world
abbrev pub shown_unless : Option NewFault → List ℕ → Shown
shown_unless None text = record { text = text; is_refused = false }
shown_unless (Some fault) text = refusal (new_line (new_fault fault))

-- of a file that describes a scenario, in which steps may repeat; or the line of its fault
abbrev pub bounds_or_fault : (baud : ℕ) (json : Bool) → Result StreamView (Option Fault) → Shown
bounds_or_fault baud json (Ok s) = shown_unless (world_fault s.once) (text_of baud json s.once)
bounds_or_fault baud json (Err fault) = refusal (scenario_line fault)

abbrev pub bounds_of : (baud : ℕ) (json : Bool) (file : List ℕ) → Shown
bounds_of baud json file = bounds_or_fault baud json (stream_scenario_of file)
