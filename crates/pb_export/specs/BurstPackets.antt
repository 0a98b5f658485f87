-- A burst of a capture as a packet, in pcap or, with a comment, in pcapng.
use Rattle.std.specs.Prelude.{ℕ, Bool, true, false, List, [], ◌∷◌, ◌++◌, ◌==◌, if◌then◌else◌, length, take, codes, decimal, Option, Some, None}
use Rattle.pb_monitor.specs.declared.alarms.Alarm.{Alarm}
use Rattle.pb_monitor.specs.declared.heard_bursts.HeardBurst.{HeardBurst}
use Rattle.pb_monitor.specs.declared.holders.Holder.{Holder}
use Rattle.pb_monitor.specs.declared.holders.Holder.TheVariants.{One, OfferedTo, Nobody, Unknown}
use Rattle.pb_monitor.specs.AlarmWords.{name_of}
use Rattle.pb_export.specs.Bursts.{is_damaged, known_octets}
use Rattle.pb_export.specs.Pcap.{packet_of}
use Rattle.pb_export.specs.Pcapng.{block}
use Rattle.pb_export.specs.Pieces.{all_of}
use Rattle.pb_export.specs.Times.{nanos}

-- the octets that are known, of as many as there are characters; without any there is no packet
abbrev pub packet_in : (baud : ℕ) → HeardBurst → (octets : List ℕ) → List ℕ
packet_in baud b octets = if length octets == 0 then [] else packet_of (nanos baud b.begin) octets b.count

abbrev pub burst_packet : (baud : ℕ) → HeardBurst → List ℕ
burst_packet baud b = packet_in baud b (known_octets b.chars.items)

-- ---- with a comment

abbrev pub damage_words : Bool → List ℕ
damage_words true = codes ", damaged"
damage_words false = []

abbrev pub holder_words : Option Holder → List ℕ
holder_words None = []
holder_words (Some (One address)) = codes ", holder " ++ decimal address
holder_words (Some (OfferedTo address)) = codes ", offered to " ++ decimal address
holder_words (Some Nobody) = codes ", nobody"
holder_words (Some Unknown) = codes ", unknown"

abbrev pub alarm_words : Option Alarm → List ℕ
alarm_words None = []
alarm_words (Some alarm) = codes ", alarm " ++ name_of alarm

-- when it began in bit times, whether it is damaged, who may send tokens and requests behind it, and its alarm
abbrev pub comment_text : HeardBurst → List ℕ
comment_text b =
    all_of (codes "begin " ∷ decimal b.begin ∷ damage_words (is_damaged b) ∷ [])
    ++ holder_words b.holder
    ++ alarm_words b.alarm

abbrev pub known_block : (baud : ℕ) → HeardBurst → (octets : List ℕ) → List ℕ
known_block baud b octets = block (nanos baud b.begin) (take 65535 (comment_text b)) octets b.count

abbrev pub block_in : (baud : ℕ) → HeardBurst → (octets : List ℕ) → List ℕ
block_in baud b octets = if length octets == 0 then [] else known_block baud b octets

abbrev pub burst_block : (baud : ℕ) → HeardBurst → List ℕ
burst_block baud b = block_in baud b (known_octets b.chars.items)
