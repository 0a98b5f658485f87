-- A trace as a capture file with comments (pcapng).
use Rattle.std.specs.Prelude.{ℕ, ◌+◌, ◌*◌, ◌/◌, ◌%◌, ◌==◌, if◌then◌else◌, List, [], ◌∷◌, ◌++◌, length, take, codes, decimal}
use Rattle.std.specs.List.{flat_map}
use Rattle.law_model.specs.Trace.{Heard, Record, Entry, Sent, Noise}
use Rattle.pb_scenario.specs.Scenarios.{ScenarioView}
use Rattle.pb_export.specs.declared.options.Window.{Window}
use Rattle.pb_export.specs.declared.options.Link.{Link}
use Rattle.pb_export.specs.Windows.{shown_in}
use Rattle.pb_export.specs.Pieces.{all_of, half, word}
use Rattle.pb_export.specs.Times.{nanos}
use Rattle.pb_export.specs.Names.{name_at}
use Rattle.pb_export.specs.Words.{heard_letter}
use Rattle.pb_export.specs.Pcap.{link_number}
use Rattle.pb_export.specs.Saying.{sent_octets}

-- ---- padding to a multiple of four

abbrev pub padded : ℕ → ℕ
padded n = (n + 3) / 4 * 4

abbrev pub padding : ℕ → List ℕ
padding n =
    if n % 4 == 0 then [] else if n % 4 == 1 then 0 ∷ 0 ∷ 0 ∷ [] else if n % 4 == 2 then 0 ∷ 0 ∷ [] else 0 ∷ []

-- ---- blocks: a type, the length of the block, what it has, options with their lengths, and the length again

-- version 1.0, a length that is not said, and the program's name (option 4)
abbrev pub section : List ℕ
section =
    word 0x0a0d0d0a ++ word 44 ++ word 0x1a2b3c4d ++ half 1 ++ half 0 ++ word 0xffffffff ++ word 0xffffffff
    ++ half 4 ++ half 8 ++ codes "ringplay" ++ word 0 ++ word 44

-- the link type, and the interface's name (option 2), bits a second (option 8), and that times have nine decimals (option 9)
abbrev pub interface : (baud : ℕ) → Link → List ℕ
interface baud link =
    word 1 ++ word 52 ++ half (link_number link) ++ half 0 ++ word 65535
    ++ half 2 ++ half 3 ++ (98 ∷ 117 ∷ 115 ∷ 0 ∷ []) ++ half 8 ++ half 8 ++ word baud ++ word 0 ++ half 9 ++ half 1 ++ word 9
    ++ word 0 ++ word 52

-- how a telegram reached each tap
abbrev pub letters : List Heard → List ℕ
letters heard = flat_map heard_letter heard

abbrev pub comment_text : ScenarioView → Record → List ℕ
comment_text s r =
    (codes "begin " ++ decimal r.begin ++ codes ", sent by " ++ name_at s r.tap ++ codes ", heard ")
    ++ letters r.heard

abbrev pub length_of : (octets comment : List ℕ) → ℕ
length_of octets comment = 40 + padded (length octets) + padded (length comment)

-- the first interface, a moment in nanoseconds, the number of octets that are there and of those that there were, the former,
-- and the comment (option 1)
abbrev pub block : (at : ℕ) (comment octets : List ℕ) (count : ℕ) → List ℕ
block at comment octets count =
    all_of (word 6 ∷ word (length_of octets comment) ∷ word 0 ∷ word (at / 4294967296) ∷ word at
    ∷ word (length octets) ∷ word count ∷ octets ∷ padding (length octets)
    ∷ half 1 ∷ half (length comment) ∷ comment ∷ padding (length comment)
    ∷ word 0 ∷ word (length_of octets comment) ∷ [])

-- the octets that were sent; a comment is cut to the length that its field can say
abbrev pub packet_block : (baud : ℕ) → ScenarioView → Record → List ℕ
packet_block baud s r = block (nanos baud r.begin) (take 65535 (comment_text s r)) (sent_octets r) (length (sent_octets r))

-- noise has no packet
abbrev pub entry_block : (baud : ℕ) → ScenarioView → Entry → List ℕ
entry_block baud s (Sent r) = packet_block baud s r
entry_block baud s (Noise span) = []

abbrev pub pcapng_file : (baud : ℕ) → Link → Window → ScenarioView → List Entry → List ℕ
pcapng_file baud link w s es =
    section
    ++ interface baud link
    ++ shown_in w (entry_block baud s) es
