-- A trace as a capture file (pcap), with nanoseconds.
use Rattle.std.specs.Prelude.{ℕ, ◌/◌, ◌%◌, List, [], ◌++◌, length}
use Rattle.law_model.specs.Trace.{Record, Entry, Sent, Noise}
use Rattle.pb_export.specs.declared.options.Window.{Window}
use Rattle.pb_export.specs.declared.options.Link.{Link}
use Rattle.pb_export.specs.declared.options.Link.TheVariants.{User, Profibus}
use Rattle.pb_export.specs.Windows.{shown_in}
use Rattle.pb_export.specs.Pieces.{half, word}
use Rattle.pb_export.specs.Times.{nanos}
use Rattle.pb_export.specs.Saying.{sent_octets}

abbrev pub link_number : Link → ℕ
link_number User = 147
link_number Profibus = 257

-- a file with nanoseconds of version 2.4, in UTC, with packets of at most 65535 octets
abbrev pub header : Link → List ℕ
header link = word 0xa1b23c4d ++ half 2 ++ half 4 ++ word 0 ++ word 0 ++ word 65535 ++ word (link_number link)

-- seconds and nanoseconds of a moment in nanoseconds, the number of octets that are there and of those that there were, and
-- the former
abbrev pub packet_of : (at : ℕ) (octets : List ℕ) (count : ℕ) → List ℕ
packet_of at octets count = word (at / 1000000000) ++ word (at % 1000000000) ++ word (length octets) ++ word count ++ octets

-- the octets that were sent
abbrev pub packet : (baud : ℕ) → Record → List ℕ
packet baud r = packet_of (nanos baud r.begin) (sent_octets r) (length (sent_octets r))

-- noise has no packet
abbrev pub entry_packet : (baud : ℕ) → Entry → List ℕ
entry_packet baud (Sent r) = packet baud r
entry_packet baud (Noise span) = []

abbrev pub pcap_file : (baud : ℕ) → Link → Window → List Entry → List ℕ
pcap_file baud link w es = header link ++ shown_in w (entry_packet baud) es
