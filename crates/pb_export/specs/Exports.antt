-- The export of a trace, in the form that is asked for; and that of a scenario file.
use Rattle.std.specs.Prelude.{ℕ, false, List, [], Option, Some, None, Result, Ok, Err}
use Rattle.law_model.specs.Trace.{Entry}
use Rattle.law_runs.specs.Scenarios.{RunFault, trace_of}
use Rattle.pb_scenario.specs.Fields.{Fault}
use Rattle.pb_scenario.specs.Scenarios.{ScenarioView}
use Rattle.pb_texts.specs.Shown.{Shown, refusal}
use Rattle.pb_texts.specs.Faults.{run_line, scenario_line}
use Rattle.pb_texts.specs.Files.{scenario_of}
use Rattle.pb_export.specs.declared.options.Export.{Export}
use Rattle.pb_export.specs.declared.options.Form.{Form}
use Rattle.pb_export.specs.declared.options.Form.TheVariants.{Json, Pcap, Pcapng, Svg, Vcd}
use Rattle.pb_export.specs.Json.{json_text}
use Rattle.pb_export.specs.Pcap.{pcap_file}
use Rattle.pb_export.specs.Pcapng.{pcapng_file}
use Rattle.pb_export.specs.Svg.{svg_text}
use Rattle.pb_export.specs.Vcd.{vcd_text}

abbrev pub in_form : Form → Export → ScenarioView → List Entry → List ℕ
in_form Json x s es = json_text x.window s es
in_form Pcap x s es = pcap_file x.baud x.link x.window es
in_form Pcapng x s es = pcapng_file x.baud x.link x.window s es
in_form Svg x s es = svg_text x.window s es
in_form Vcd x s es = vcd_text x.baud x.strings x.window s es

abbrev pub bytes_of : Export → ScenarioView → List Entry → List ℕ
bytes_of x s es = in_form x.form x s es

abbrev pub export_of_trace : Export → ScenarioView → List Entry → Shown
export_of_trace x s es = record { text = bytes_of x s es; is_refused = false }

-- the export of a run's trace, or the line of the fault that ends the run; a run always has an outcome (a law of runs)
abbrev pub export_of_run : Export → ScenarioView → Option (Result (List Entry) RunFault) → Shown
export_of_run x s None = refusal []
export_of_run x s (Some (Ok entries)) = export_of_trace x s entries
export_of_run x s (Some (Err fault)) = refusal (run_line fault)

abbrev pub export_of_scenario : Export → ScenarioView → Shown
export_of_scenario x s = export_of_run x s (trace_of s.scenario)

-- of a file that describes a scenario; or the line of its fault
abbrev pub export_or_fault : Export → Result ScenarioView (Option Fault) → Shown
export_or_fault x (Ok s) = export_of_scenario x s
export_or_fault x (Err fault) = refusal (scenario_line fault)

abbrev pub export_of : Export → List ℕ → Shown
export_of x file = export_or_fault x (scenario_of file)
