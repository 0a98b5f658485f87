-- The export that is written entry by entry has the bytes of the whole one.
use Rattle.std.proofs.Common.{◌≡◌, List, refl, append_assoc}
use Rattle.std.specs.Prelude.{IfSome}
use Rattle.law_model.specs.Trace.{Entry}
use Rattle.pb_scenario.specs.Repeats.{StreamView, unrepeated}
use Rattle.pb_scenario.specs.Scenarios.{ScenarioView}
use Rattle.pb_export.specs.declared.options.Export.{Export}
use Rattle.pb_export.specs.declared.options.Form.{Form}
use Rattle.pb_export.specs.declared.options.Form.TheVariants.{Json, Pcap, Pcapng, Svg, Vcd}
use Rattle.pb_export.specs.declared.options.StreamForm.{StreamForm}
use Rattle.pb_export.specs.declared.options.StreamForm.TheVariants as form
use Rattle.pb_export.specs.declared.streamed.StreamExporter.{StreamExporter}
use Rattle.pb_export.specs.Exports.{in_form}
use Rattle.pb_export.specs.Pcapng.{entry_block, interface, section}
use Rattle.pb_export.specs.Streamed.{IsSame, dump_of, entries_in, entries_of, streamed_bytes, streamed_in, streamed_of, unwritten, unwritten_in}
use Rattle.pb_export.specs.Waves.{IsBegun}
use Rattle.pb_export.specs.Windows.{shown_in}
use Rattle.pb_export.proofs.InPieces.{begun-waves}

pub same : (x : Export) → IfSome (streamed_of x) (IsSame x)
same x = by x.form
  where
    by : (f : Form) → IfSome (streamed_in f x) (λ y. (s : ScenarioView) (es : List Entry) → streamed_bytes y (unrepeated s) es ≡ in_form f x s es)
    by Json = λ s es. refl
    by Pcap = λ s es. refl
    by Pcapng = λ s es. append_assoc section (interface x.baud x.link) (shown_in x.window (entry_block x.baud s) es)
    by Svg = tt
    by Vcd = λ s es. refl

-- ---- an export of which nothing is written

pub begun : (y : StreamExporter) (s : StreamView) → IsBegun y.export.window s.until y.waves → (es : List Entry) → unwritten y s es ≡ entries_of y.export s es
begun y s is es = by y.export.form
  where
    by : (f : StreamForm) → unwritten_in f y s es ≡ entries_in f y.export s es
    by form.Json = refl
    by form.Pcap = refl
    by form.Pcapng = refl
    by form.Vcd = begun-waves (dump_of y.export) s.until y.waves es is
