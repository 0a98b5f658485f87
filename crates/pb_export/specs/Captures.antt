-- The export of a capture, in the form that is asked for: what comes first, and then the bytes of each burst.
use Rattle.std.specs.Prelude.{ℕ, List, [], ◌++◌}
use Rattle.std.specs.List.{flat_map}
use Rattle.pb_timers.specs.Timers.{Params}
use Rattle.pb_monitor.specs.declared.heard_bursts.HeardBurst.{HeardBurst}
use Rattle.pb_export.specs.declared.captures.CaptureExport.{CaptureExport}
use Rattle.pb_export.specs.declared.captures.CaptureForm.{CaptureForm}
use Rattle.pb_export.specs.declared.captures.CaptureForm.TheVariants.{Json, Pcap, Pcapng, Svg}
use Rattle.pb_export.specs.BurstJson.{burst_line, bus_line}
use Rattle.pb_export.specs.BurstPackets.{burst_block, burst_packet}
use Rattle.pb_export.specs.Pcap.{header}
use Rattle.pb_export.specs.Pcapng.{interface, section}

abbrev pub head_in : CaptureForm → CaptureExport → List ℕ
head_in Json x = []
head_in Pcap x = header x.link
head_in Pcapng x = section ++ interface x.baud x.link
head_in Svg x = []

abbrev pub head_of : CaptureExport → List ℕ
head_of x = head_in x.form x

-- the bus, if the form says something of it
abbrev pub bus_in : CaptureForm → Params → List ℕ
bus_in Json p = bus_line p
bus_in Pcap p = []
bus_in Pcapng p = []
bus_in Svg p = []

abbrev pub bus_of : CaptureExport → Params → List ℕ
bus_of x p = bus_in x.form p

abbrev pub burst_in : CaptureForm → CaptureExport → HeardBurst → List ℕ
burst_in Json x b = burst_line b
burst_in Pcap x b = burst_packet x.baud b
burst_in Pcapng x b = burst_block x.baud b
burst_in Svg x b = []

abbrev pub burst_of : CaptureExport → HeardBurst → List ℕ
burst_of x b = burst_in x.form x b

-- those of all bursts, in their order
abbrev pub bursts_of : CaptureExport → List HeardBurst → List ℕ
bursts_of x bs = flat_map (burst_of x) bs
