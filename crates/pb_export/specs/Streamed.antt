-- The export of a trace that is written entry by entry, as they come.
use Rattle.std.specs.Prelude.{◌≡◌, ℕ, Bool, true, List, ◌++◌, Option, Some, None}
use Rattle.law_model.specs.Trace.{Entry}
use Rattle.pb_scenario.specs.Repeats.{StreamView, unrepeated}
use Rattle.pb_scenario.specs.Scenarios.{ScenarioView}
use Rattle.pb_export.specs.declared.options.Export.{Export}
use Rattle.pb_export.specs.declared.options.Form.{Form}
use Rattle.pb_export.specs.declared.options.Form.TheVariants.{Json, Pcap, Pcapng, Svg, Vcd}
use Rattle.pb_export.specs.declared.options.StreamExport.{StreamExport}
use Rattle.pb_export.specs.declared.options.StreamForm.{StreamForm}
use Rattle.pb_export.specs.declared.options.StreamForm.TheVariants as form
use Rattle.pb_export.specs.declared.streamed.StreamExporter.{StreamExporter}
use Rattle.pb_export.specs.declared.dumps.Dump.{Dump}
use Rattle.pb_export.specs.Exports.{bytes_of}
use Rattle.pb_export.specs.Json.{bus_line, entry_line}
use Rattle.pb_export.specs.Pcap.{entry_packet, header}
use Rattle.pb_export.specs.Pcapng.{entry_block, interface, section}
use Rattle.pb_export.specs.Vcd.{vcd_body, vcd_head}
use Rattle.pb_export.specs.Waves.{are_since, is_closed, latest_end, waves_from}
use Rattle.pb_export.specs.Windows.{shown_in}

-- what it begins with
abbrev pub head_in : StreamForm → StreamExport → StreamView → List ℕ
head_in form.Json x s = bus_line s.once s.until
head_in form.Pcap x s = header x.link
head_in form.Pcapng x s = section ++ interface x.baud x.link
head_in form.Vcd x s = vcd_head x.baud x.strings x.window s.once

abbrev pub head_of : StreamExport → StreamView → List ℕ
head_of x s = head_in x.form x s

-- the entries that are shown
abbrev pub entries_in : StreamForm → StreamExport → StreamView → List Entry → List ℕ
entries_in form.Json x s es = shown_in x.window (entry_line s.once) es
entries_in form.Pcap x s es = shown_in x.window (entry_packet x.baud) es
entries_in form.Pcapng x s es = shown_in x.window (entry_block x.baud s.once) es
entries_in form.Vcd x s es = vcd_body x.baud x.strings x.window s.until es

abbrev pub entries_of : StreamExport → StreamView → List Entry → List ℕ
entries_of x s es = entries_in x.form x s es

abbrev pub streamed_bytes : StreamExport → StreamView → List Entry → List ℕ
streamed_bytes x s es = head_of x s ++ entries_of x s es

-- ---- an export of which some is written

abbrev pub dump_of : StreamExport → Dump
dump_of x = record { window = x.window; baud = x.baud; strings = x.strings }

-- the rest of it, with the entries still to come
abbrev pub unwritten_in : StreamForm → StreamExporter → StreamView → List Entry → List ℕ
unwritten_in form.Vcd x s es = waves_from (dump_of x.export) x.waves es
unwritten_in form x s es = entries_in form x.export s es

abbrev pub unwritten : StreamExporter → StreamView → List Entry → List ℕ
unwritten x s es = unwritten_in x.export.form x s es

-- nothing is written behind its head
pub record Begins (x : StreamExport) (s : StreamView) (new : StreamExporter) : Type 0 where
  pub export : new.export ≡ x
  pub rest : (es : List Entry) → unwritten new s es ≡ entries_of x s es

-- so many of some entries may be written without the others: for a dump, these begin once those have ended
abbrev pub may_go_in : StreamForm → StreamExporter → List Entry → Bool
may_go_in form.Vcd x es = is_closed x.export.window x.waves es
may_go_in form x es = true

abbrev pub follow_in : StreamForm → (first later : List Entry) → Bool
follow_in form.Vcd es later = are_since (latest_end 0 es) later
follow_in form es later = true

-- some entries are written, and the export goes on behind them
pub record GoesOn (old new : StreamExporter) (s : StreamView) (es : List Entry) (before after : List ℕ) : Type 0 where
  pub text : List ℕ
  pub bytes : after ≡ before ++ text
  pub export : new.export ≡ old.export
  pub rest : may_go_in old.export.form old es ≡ true → (later : List Entry) → follow_in old.export.form es later ≡ true
      → text ++ unwritten new s later ≡ unwritten old s (es ++ later)

-- ---- beside the export of the whole trace

-- an export in one of the forms that are written so
abbrev pub streamed_as : Export → StreamForm → Option StreamExport
streamed_as x form = Some (record { form = form; window = x.window; baud = x.baud; link = x.link; strings = x.strings })

abbrev pub streamed_in : Form → Export → Option StreamExport
streamed_in Json x = streamed_as x form.Json
streamed_in Pcap x = streamed_as x form.Pcap
streamed_in Pcapng x = streamed_as x form.Pcapng
streamed_in Svg x = None
streamed_in Vcd x = streamed_as x form.Vcd

abbrev pub streamed_of : Export → Option StreamExport
streamed_of x = streamed_in x.form x

-- of a scenario in which no step repeats it has the bytes of the whole export
abbrev pub IsSame : Export → StreamExport → Type 0
IsSame x y = (s : ScenarioView) (es : List Entry) → streamed_bytes y (unrepeated s) es ≡ bytes_of x s es
