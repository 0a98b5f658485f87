-- A capture as a picture: a lane for each station that was heard, and a band of who may send tokens and requests.
use Rattle.std.specs.Prelude.{ℕ, zero, suc, ◌+◌, ◌-◌, ◌/◌, ◌*◌, ◌%◌, Bool, true, false, ◌==◌, nat_le, min, max, if◌then◌else◌, List, [], ◌∷◌, ◌++◌, length, position, codes, decimal, Option, Some, None}
use Rattle.std.specs.List.{flat_map, list_any}
use Rattle.pb_decode.specs.Decoding.{output_of}
use Rattle.law_turn.specs.Arrivals.{Arrival, Token, Framed, Acknowledgement, NoTelegram, arrival_of}
use Rattle.pb_monitor.specs.declared.alarms.Alarm.{Alarm}
use Rattle.pb_monitor.specs.declared.heard_bursts.HeardBurst.{HeardBurst}
use Rattle.pb_monitor.specs.declared.heard_bursts.Named.{Named}
use Rattle.pb_monitor.specs.declared.holders.Holder.{Holder}
use Rattle.pb_monitor.specs.declared.holders.Holder.TheVariants.{One, OfferedTo, Nobody, Unknown}
use Rattle.pb_monitor.specs.AlarmWords.{name_of}
use Rattle.pb_export.specs.declared.capture_band.Part.{Part}
use Rattle.pb_export.specs.declared.capture_band.Turn.{Turn}
use Rattle.pb_export.specs.declared.places.Bar.{Bar}
use Rattle.pb_export.specs.declared.places.Stretch.{Stretch}
use Rattle.pb_export.specs.Boxes.{all_lanes, band_bar, box_bar, class_of, hatched_if, heard_bar, holders, in_lane}
use Rattle.pb_export.specs.BurstJson.{char_hex}
use Rattle.pb_export.specs.Bursts.{is_damaged}
use Rattle.pb_export.specs.Lanes.{label, lines, scale}
use Rattle.pb_export.specs.Pieces.{all_of}
use Rattle.pb_export.specs.Places.{bars, clip, lane_top, rows, text_at, top, word_moment}
use Rattle.pb_export.specs.Rosters.{lane_if}
use Rattle.pb_export.specs.Saying.{is_request, kind_of, word_text}
use Rattle.pb_export.specs.Sheets.{Sheet}
use Rattle.pb_export.specs.Styles.{capture_legend}
use Rattle.pb_export.specs.Svg.{head_with}

-- ---- stations, by their addresses; 127 is none

-- the source of a telegram; an acknowledgement comes from the station that was asked
abbrev pub speaker_of : (asked : ℕ) → Arrival → ℕ
speaker_of asked (Token da sa) = sa
speaker_of asked (Framed f) = f.sa % 128
speaker_of asked Acknowledgement = asked
speaker_of asked NoTelegram = 127

-- the station that a telegram asks, also by its address and its control octet
abbrev pub asked_in : (da fc : ℕ) → ℕ
asked_in da fc = if is_request fc then da % 128 else 127

abbrev pub asked_by : Arrival → ℕ
asked_by (Token da sa) = 127
asked_by (Framed f) = asked_in f.da f.fc
asked_by Acknowledgement = 127
asked_by NoTelegram = 127

-- the speakers of bursts, one each
abbrev pub speakers_from : (asked : ℕ) → List HeardBurst → List ℕ
speakers_from asked [] = []
speakers_from asked (b ∷ bs) =
    speaker_of asked (arrival_of b.chars.items) ∷ speakers_from (asked_by (arrival_of b.chars.items)) bs

abbrev pub speakers : List HeardBurst → List ℕ
speakers bs = speakers_from 127 bs

-- those of so many addresses from one on that speak
abbrev pub lanes_from : (speakers : List ℕ) (address count : ℕ) → List ℕ
lanes_from speakers address zero = []
lanes_from speakers address (suc n) =
    lane_if (list_any (λ s. s == address) speakers) address ++ lanes_from speakers (address + 1) n

unfoldable pub lanes_of : (speakers : List ℕ) → List ℕ
lanes_of speakers = lanes_from speakers 0 127

-- ---- the sheet

abbrev pub first_begin : List HeardBurst → ℕ
first_begin [] = 0
first_begin (b ∷ bs) = b.begin

abbrev pub last_end : ℕ → List HeardBurst → ℕ
last_end last [] = last
last_end last (b ∷ bs) = last_end (max last b.end) bs

-- the multiple of 100 bit times up to which the first burst begins
abbrev pub zero_of : List HeardBurst → ℕ
zero_of bs = first_begin bs / 100 * 100

-- its moments are counted from there; no clock of a picture goes further
abbrev pub sheet_of : List HeardBurst → (lanes : List ℕ) → Sheet
sheet_of bs lanes = record {
  zero = zero_of bs;
  from = 0;
  last = min 2000000000000 (last_end 0 bs - zero_of bs);
  lanes = length lanes;
}

-- ---- the lanes

abbrev pub station : Sheet → (strip lane address : ℕ) → List ℕ
station sheet strip lane address =
    label (top sheet strip + lane_top lane + 18)
    ++ all_of (codes "station <tspan>" ∷ decimal address ∷ codes "</tspan></text>\n" ∷ [])

-- those of some lanes, the first of them at an index
abbrev pub stations_from : Sheet → (strip lane : ℕ) (lanes : List ℕ) → List ℕ
stations_from sheet strip lane [] = []
stations_from sheet strip lane (address ∷ lanes) = station sheet strip lane address ++ stations_from sheet strip (lane + 1) lanes

abbrev pub stations : Sheet → (lanes : List ℕ) (strip : ℕ) → List ℕ
stations sheet lanes strip =
    codes "<g class=\"name\">\n"
    ++ label (top sheet strip + 34)
    ++ codes "holder</text>\n"
    ++ stations_from sheet strip 0 lanes
    ++ codes "</g>\n"

abbrev pub row_text : Sheet → (lanes : List ℕ) (strip : ℕ) → List ℕ
row_text sheet lanes strip = scale sheet strip ++ stations sheet lanes strip

abbrev pub rows_from : Sheet → (lanes : List ℕ) (strip count : ℕ) → List ℕ
rows_from sheet lanes strip zero = []
rows_from sheet lanes strip (suc n) = row_text sheet lanes strip ++ rows_from sheet lanes (strip + 1) n

-- ---- the band

-- one holder until a moment, from the one before on; none where the monitor began anew
abbrev pub none_until : ℕ → List Part
none_until stop = record { until = stop; holder = None } ∷ []

-- up to the end of a burst: the one who was named behind the burst before, as long as that lasts, and then the one who is named
-- just before this one
abbrev pub parts_to : Option Holder → Option Named → (stop : ℕ) → List Part
parts_to holder None stop = none_until stop
parts_to holder (Some named) stop =
    record { until = named.since; holder = holder } ∷ record { until = stop; holder = Some named.holder } ∷ []

-- those of the bursts behind one
abbrev pub parts_from : Option Holder → List HeardBurst → List Part
parts_from holder [] = []
parts_from holder (b ∷ bs) = parts_to holder b.before b.end ++ parts_from b.holder bs

-- neighbours with the same holder are joined

abbrev pub is_same_holder : Holder → Holder → Bool
is_same_holder (One address) (One other) = address == other
is_same_holder (OfferedTo address) (OfferedTo other) = address == other
is_same_holder Nobody Nobody = true
is_same_holder Unknown Unknown = true
is_same_holder one other = false

abbrev pub is_same : Option Holder → Option Holder → Bool
is_same None None = true
is_same (Some one) (Some other) = is_same_holder one other
is_same one other = false

-- what a part adds behind the last turn, and the last turn then
abbrev pub ended : Turn → Part → List Turn
ended x part = if nat_le part.until x.end then [] else if is_same x.holder part.holder then [] else x ∷ []

abbrev pub extended : Turn → Part → Turn
extended x part =
    if nat_le part.until x.end then x
    else if is_same x.holder part.holder then record { begin = x.begin; end = part.until; holder = x.holder }
    else record { begin = x.end; end = part.until; holder = part.holder }

abbrev pub joined : Turn → List Part → List Turn
joined x [] = x ∷ []
joined x (part ∷ parts) = ended x part ++ joined (extended x part) parts

abbrev pub turns_of : List HeardBurst → List Turn
turns_of bs = joined (record { begin = 0; end = 0; holder = None }) (parts_from None bs)

abbrev pub holder_name : Holder → List ℕ
holder_name (One address) = decimal address
holder_name (OfferedTo address) = codes "to " ++ decimal address
holder_name Nobody = codes "nobody"
holder_name Unknown = codes "unknown"

abbrev pub holder_class : Holder → List ℕ
holder_class (One address) = codes "holder"
holder_class (OfferedTo address) = codes "nobody"
holder_class Nobody = codes "nobody"
holder_class Unknown = codes "nobody"

-- the box of a turn of a class, with a name
abbrev pub named_box : Sheet → Turn → (class name : List ℕ) → List ℕ
named_box sheet turn class name =
    let x = clip sheet (record { begin = turn.begin; end = turn.end }) in
    all_of (codes "<g class=\"" ∷ class ∷ codes "\"><title>token: " ∷ name ∷ codes ", " ∷ decimal turn.begin ∷ codes " to "
    ∷ decimal turn.end ∷ codes "</title>" ∷ [])
    ++ bars sheet band_bar x
    ++ holders sheet x name
    ++ codes "</g>\n"

abbrev pub held_box : Sheet → Turn → Holder → List ℕ
held_box sheet turn holder = named_box sheet turn (holder_class holder) (holder_name holder)

abbrev pub turn_if : Sheet → Turn → Option Holder → List ℕ
turn_if sheet turn None = []
turn_if sheet turn (Some holder) = held_box sheet turn holder

abbrev pub turn_box : Sheet → Turn → List ℕ
turn_box sheet turn = turn_if sheet turn turn.holder

-- ---- bursts

-- the bar of a lane, or that of all lanes
abbrev pub bar_in : Sheet → Option ℕ → Bar
bar_in sheet (Some lane) = in_lane box_bar lane
bar_in sheet None = all_lanes sheet

abbrev pub lane_of : (lanes : List ℕ) (speaker : ℕ) → Option ℕ
lane_of lanes speaker = position (λ other. other == speaker) lanes

-- the begin of its box: its kind, and its moments and what `decode` says of it as a title
abbrev pub title_of : (class : List ℕ) → HeardBurst → (hex decoded : List ℕ) → List ℕ
title_of class b hex decoded =
    all_of (codes "<g class=\"" ∷ class ∷ codes "\"><title>" ∷ decimal b.begin ∷ codes " " ∷ decimal b.end ∷ codes " " ∷ hex
    ∷ codes "\n" ∷ decoded ∷ codes "</title>" ∷ [])

abbrev pub burst_title : HeardBurst → List ℕ
burst_title b =
    let hex = flat_map char_hex b.chars.items in
    title_of (class_of (kind_of (arrival_of b.chars.items))) b hex (output_of hex)

-- its bars, hatched where it is damaged, and its word
abbrev pub burst_bars : Sheet → Bar → HeardBurst → Stretch → List ℕ
burst_bars sheet bar b x =
    bars sheet bar x
    ++ hatched_if (is_damaged b) sheet bar x
    ++ text_at sheet (word_moment sheet x) 3 (bar.below + 14)
    ++ word_text (arrival_of b.chars.items)
    ++ codes "</text></g>\n"

-- the mark of an alarm, in the lane of the station that raised it
abbrev pub alarm_in : Sheet → Stretch → (lane : ℕ) (name : List ℕ) → List ℕ
alarm_in sheet x lane name =
    all_of (codes "<g class=\"hearer\"><title>alarm: " ∷ name ∷ codes "</title>" ∷ [])
    ++ bars sheet (in_lane heard_bar lane) x
    ++ text_at sheet x.begin 1 (lane_top lane + 3)
    ++ all_of (name ∷ codes "</text></g>\n" ∷ [])

abbrev pub alarm_mark : Sheet → Option ℕ → Stretch → Option Alarm → List ℕ
alarm_mark sheet lane x None = []
alarm_mark sheet None x (Some alarm) = []
alarm_mark sheet (Some lane) x (Some alarm) = alarm_in sheet x lane (name_of alarm)

abbrev pub burst_box : Sheet → Option ℕ → HeardBurst → List ℕ
burst_box sheet lane b =
    let x = clip sheet (record { begin = b.begin; end = b.end }) in
    burst_title b
    ++ burst_bars sheet (bar_in sheet lane) b x
    ++ alarm_mark sheet lane x b.alarm

-- what begins within the clock of a picture has a box
abbrev pub box_if : Sheet → Option ℕ → HeardBurst → List ℕ
box_if sheet lane b = if nat_le (b.begin - sheet.zero) 1000000000000 then burst_box sheet lane b else []

abbrev pub boxes : Sheet → (lanes speakers : List ℕ) → List HeardBurst → List ℕ
boxes sheet lanes [] bs = []
boxes sheet lanes (s ∷ speakers) [] = []
boxes sheet lanes (s ∷ speakers) (b ∷ bs) = box_if sheet (lane_of lanes s) b ++ boxes sheet lanes speakers bs

-- ---- the picture

abbrev pub picture : List HeardBurst → Sheet → (lanes speakers : List ℕ) → List ℕ
picture bs sheet lanes speakers =
    head_with sheet capture_legend
    ++ lines sheet
    ++ rows_from sheet lanes 0 (rows sheet)
    ++ flat_map (turn_box sheet) (turns_of bs)
    ++ boxes sheet lanes speakers bs
    ++ codes "</svg>\n"

unfoldable pub svg_text : List HeardBurst → List ℕ
svg_text bs =
    let lanes = lanes_of (speakers bs) in
    picture bs (sheet_of bs lanes) lanes (speakers bs)
