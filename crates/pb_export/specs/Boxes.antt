-- The boxes of a picture: telegrams and noise in the lanes, and who holds the token in a band above them.
use Rattle.std.specs.Prelude.{ℕ, zero, suc, ◌+◌, ◌-◌, ◌*◌, Bool, true, false, ◌==◌, nat_le, if◌then◌else◌, List, [], ◌∷◌, ◌++◌, length, map, slice_get, position, codes, decimal, unwrap_or, Option, Some, None}
use Rattle.std.specs.List.{list_any}
use Rattle.hex.specs.Hex.{encode_lower}
use Rattle.pb_telegram.specs.declared.chars.RxChar.TheVariants.{Good}
use Rattle.pb_decode.specs.Decoding.{output_of}
use Rattle.law_turn.specs.Arrivals.{arrival_of}
use Rattle.law_model.specs.Trace.{Heard, Own, Whole, Damaged, Unheard, Pending, Record, Entry, Sent, Noise}
use Rattle.pb_scenario.specs.Scenarios.{ScenarioView}
use Rattle.pb_scenario.specs.Texts.{entry_text}
use Rattle.pb_export.specs.declared.holders.Tenure.{Tenure}
use Rattle.pb_export.specs.Sheets.{Sheet}
use Rattle.pb_export.specs.declared.places.Bar.{Bar}
use Rattle.pb_export.specs.declared.places.Stretch.{Stretch}
use Rattle.pb_export.specs.declared.saying.Kind.{Kind}
use Rattle.pb_export.specs.declared.saying.Kind.TheVariants as kind
use Rattle.pb_export.specs.Pieces.{all_of}
use Rattle.pb_export.specs.Names.{name_at}
use Rattle.pb_export.specs.Saying.{kind_of, word_text}
use Rattle.pb_export.specs.Places.{bars, clip, lane_top, part, strip, rows_of, text_at, width, word_moment}

-- ---- bars, by how far below the top of a strip, or of a lane, they begin, and how high they are

abbrev pub box_bar : Bar
box_bar = record { below = 4; height = 20 }

abbrev pub heard_bar : Bar
heard_bar = record { below = 16; height = 8 }

abbrev pub band_bar : Bar
band_bar = record { below = 20; height = 18 }

abbrev pub in_lane : Bar → (lane : ℕ) → Bar
in_lane bar lane = record { below = lane_top lane + bar.below; height = bar.height }

abbrev pub all_lanes : Sheet → Bar
all_lanes sheet = record { below = lane_top 0; height = 28 * sheet.lanes }

-- the lane of a tap; the first, if it has none
abbrev pub lane_or_first : (lanes : List ℕ) (tap : ℕ) → ℕ
lane_or_first lanes tap = unwrap_or (position (λ other. other == tap) lanes) 0

-- ---- telegrams

abbrev pub class_of : Kind → List ℕ
class_of kind.Token = codes "token"
class_of kind.Request = codes "request"
class_of kind.Reply = codes "reply"
class_of kind.Acknowledgement = codes "ack"
class_of kind.Other = codes "other"

-- what `decode` says of octets
abbrev pub decoded : List ℕ → List ℕ
decoded octets = output_of (encode_lower octets)

abbrev pub is_damaged : Heard → Bool
is_damaged Own = false
is_damaged Whole = false
is_damaged Damaged = true
is_damaged Unheard = false
is_damaged Pending = false

abbrev pub hatched : Sheet → Bar → Stretch → List ℕ
hatched sheet bar x =
    codes "<g class=\"hatched\">"
    ++ bars sheet bar x
    ++ codes "</g>"

abbrev pub hatched_if : Bool → Sheet → Bar → Stretch → List ℕ
hatched_if false sheet bar x = []
hatched_if true sheet bar x = hatched sheet bar x

-- the bars in its speaker's lane, hatched where somebody heard it damaged, and its word
abbrev pub telegram_bars : Sheet → (lanes : List ℕ) → Record → Stretch → List ℕ
telegram_bars sheet lanes r x =
    let bar = in_lane box_bar (lane_or_first lanes r.tap) in
    bars sheet bar x
    ++ hatched_if (list_any is_damaged r.heard) sheet bar x
    ++ text_at sheet (word_moment sheet x) 3 (bar.below + 14)
    ++ word_text (arrival_of (map Good r.octets))
    ++ codes "</text></g>\n"

-- the mark of a station, with some words
abbrev pub hearing : (name words : List ℕ) → Sheet → Stretch → (lane : ℕ) → List ℕ
hearing name words sheet x lane =
    all_of (codes "<g class=\"hearer\"><title>" ∷ name ∷ codes ": " ∷ words ∷ codes "</title>" ∷ [])
    ++ bars sheet (in_lane heard_bar lane) x
    ++ text_at sheet x.begin 1 (lane_top lane + 16 - 3)
    ++ all_of (words ∷ codes "</text></g>\n" ∷ [])

-- of one that heard a telegram damaged or not at all
abbrev pub hearer : (name : List ℕ) → Sheet → Stretch → (lane : ℕ) → Heard → List ℕ
hearer name sheet x lane Own = []
hearer name sheet x lane Whole = []
hearer name sheet x lane Damaged = hearing name (codes "damaged") sheet x lane
hearer name sheet x lane Unheard = hearing name (codes "not heard") sheet x lane
hearer name sheet x lane Pending = []

abbrev pub hearer_if : (name : List ℕ) → Sheet → Stretch → (lane : ℕ) → Option Heard → List ℕ
hearer_if name sheet x lane None = []
hearer_if name sheet x lane (Some h) = hearer name sheet x lane h

-- the marks in some lanes, the first of them at an index
abbrev pub hearers : ScenarioView → Sheet → Stretch → List Heard → (lane : ℕ) (lanes : List ℕ) → List ℕ
hearers s sheet x heard lane [] = []
hearers s sheet x heard lane (tap ∷ taps) =
    hearer_if (name_at s tap) sheet x lane (slice_get heard tap) ++ hearers s sheet x heard (lane + 1) taps

-- the begin of a telegram's box: its kind, and its line of the trace and its decoding as a title
abbrev pub record_title : ScenarioView → Record → List ℕ
record_title s r =
    all_of (codes "<g class=\"" ∷ class_of (kind_of (arrival_of (map Good r.octets))) ∷ codes "\"><title>" ∷ [])
    ++ entry_text s.names (Sent r)
    ++ decoded r.octets
    ++ codes "</title>"

abbrev pub record_bars : ScenarioView → Sheet → (lanes : List ℕ) → Record → List ℕ
record_bars s sheet lanes r =
    let x = clip sheet (record { begin = r.begin; end = r.end }) in
    telegram_bars sheet lanes r x ++ hearers s sheet x r.heard 0 lanes

-- ---- noise, across all lanes

abbrev pub noise_bars : Sheet → Stretch → List ℕ
noise_bars sheet x =
    bars sheet (all_lanes sheet) x
    ++ text_at sheet x.begin 3 (lane_top 0 + 10)
    ++ codes "noise</text></g>\n"

abbrev pub noise_box : ScenarioView → Sheet → Entry → Stretch → List ℕ
noise_box s sheet e x =
    codes "<g class=\"noise\"><title>"
    ++ entry_text s.names e
    ++ codes "</title>"
    ++ noise_bars sheet (clip sheet x)

-- the box of an entry
abbrev pub entry_box : ScenarioView → Sheet → (lanes : List ℕ) → Entry → List ℕ
entry_box s sheet lanes (Sent r) = record_title s r ++ record_bars s sheet lanes r
entry_box s sheet lanes (Noise span) = noise_box s sheet (Noise span) (record { begin = span.begin; end = span.end })

-- ---- who holds the token

abbrev pub tenure_class : Option ℕ → List ℕ
tenure_class (Some tap) = codes "holder"
tenure_class None = codes "nobody"

abbrev pub holder_of : ScenarioView → Option ℕ → List ℕ
holder_of s (Some tap) = name_at s tap
holder_of s None = codes "nobody"

-- a name fits a part of a stretch, at 8 pixels a letter
abbrev pub fits : (part : Stretch) → List ℕ → Bool
fits x name = nat_le (8 * length name + 6) (width x)

-- the name of a part of a stretch, if it fits
abbrev pub holder_in : Sheet → (part : Stretch) → List ℕ → List ℕ
holder_in sheet x name =
    if fits x name then text_at sheet x.begin 4 33 ++ all_of (name ∷ codes "</text>" ∷ []) else []

-- in so many rows from one on
abbrev pub holders_from : Sheet → Stretch → List ℕ → (strip count : ℕ) → List ℕ
holders_from sheet x name strip zero = []
holders_from sheet x name strip (suc n) =
    holder_in sheet (part sheet x strip) name ++ holders_from sheet x name (strip + 1) n

abbrev pub holders : Sheet → Stretch → List ℕ → List ℕ
holders sheet x name = if nat_le x.end x.begin then [] else holders_from sheet x name (strip sheet x.begin) (rows_of sheet x)

abbrev pub tenure_box : ScenarioView → Sheet → Tenure → List ℕ
tenure_box s sheet tenure =
    let x = clip sheet (record { begin = tenure.begin; end = tenure.end }) in
    let name = holder_of s tenure.tap in
    all_of (codes "<g class=\"" ∷ tenure_class tenure.tap ∷ codes "\"><title>token: " ∷ name ∷ codes ", " ∷ decimal tenure.begin
    ∷ codes " to " ∷ decimal tenure.end ∷ codes "</title>" ∷ [])
    ++ bars sheet band_bar x
    ++ holders sheet x name
    ++ codes "</g>\n"
