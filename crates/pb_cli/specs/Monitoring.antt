-- What the export of a capture writes.
use Rattle.std.specs.Prelude.{◌≡◌, ℕ, List, [], ◌++◌, Option, Some, None}
use Rattle.std.specs.Io.KnownBytes.{Appends}
use Rattle.pb_timers.specs.Timers.{Params}
use Rattle.pb_monitor.specs.declared.heard_bursts.HeardBurst.{HeardBurst}
use Rattle.pb_monitor.specs.declared.monitors.Monitor.{Monitor}
use Rattle.pb_export.specs.declared.captures.CaptureExport.{CaptureExport}
use Rattle.pb_export.specs.declared.captures.CaptureForm.{CaptureForm}
use Rattle.pb_export.specs.declared.captures.CaptureForm.TheVariants.{Json, Pcap, Pcapng, Svg}
use Rattle.pb_export.specs.Captures.{bursts_of, bus_of, head_of}
use Rattle.pb_export.specs.CaptureSvg.{svg_text}
use Rattle.pb_cli.specs.declared.drawing.Drawing.{Drawing}
use Rattle.pb_cli.specs.Drawing.{IsOf, drawn}

-- the bursts that a monitor has handed on and not forgotten
abbrev pub heard_of : Monitor → List HeardBurst
heard_of m = m.kept.bursts.items

-- some bursts more are written, and in a picture they are drawn
pub record WritesOn (x : CaptureExport) (old new : Drawing) (before after : Option (List ℕ)) : Type 0 where
  pub bursts : List HeardBurst
  pub text : Appends before after (bursts_of x bursts)
  pub drawing : (seen : List HeardBurst) → x.form ≡ Svg → IsOf old seen → IsOf new (seen ++ bursts)

-- the head, and the bus if it is known
abbrev pub bus_if : CaptureExport → Option Params → List ℕ
bus_if x None = []
bus_if x (Some p) = bus_of x p

abbrev pub begin_of : CaptureExport → Option Params → List ℕ
begin_of x p = head_of x ++ bus_if x p

-- what a form has behind the bursts: a picture of some of them
abbrev pub picture_in : CaptureForm → List HeardBurst → List ℕ
picture_in Json bs = []
picture_in Pcap bs = []
picture_in Pcapng bs = []
picture_in Svg bs = svg_text bs

abbrev pub capture_text : CaptureExport → Option Params → List HeardBurst → List ℕ
capture_text x p bs = begin_of x p ++ bursts_of x bs ++ picture_in x.form (drawn bs)

-- the export of some bursts is written
abbrev pub WritesCapture : CaptureExport → Option Params → (before after : Option (List ℕ)) → Type 0
WritesCapture x p before after = (bs : List HeardBurst) × Appends before after (capture_text x p bs)
