-- What stands behind the boxes of a picture: in each strip a scale, and the lanes with their stations.
use Rattle.std.specs.Prelude.{ℕ, zero, suc, ◌+◌, ◌-◌, ◌*◌, nat_le, if◌then◌else◌, List, [], ◌∷◌, ◌++◌, codes, decimal}
use Rattle.pb_scenario.specs.Scenarios.{ScenarioView}
use Rattle.pb_export.specs.Sheets.{Sheet}
use Rattle.pb_export.specs.Pieces.{all_of}
use Rattle.pb_export.specs.Names.{name_at, address_at}
use Rattle.pb_export.specs.Places.{across, bars, lane_top, row_begin, rows, text_at, top}

abbrev pub line : Sheet → (lane : ℕ) → List ℕ
line sheet lane =
    bars sheet (record { below = lane_top lane + 14; height = 1 }) (record { begin = sheet.from; end = sheet.last })
    ++ codes "\n"

-- the lines of so many lanes from one on
abbrev pub lines_from : Sheet → (lane count : ℕ) → List ℕ
lines_from sheet lane zero = []
lines_from sheet lane (suc n) = line sheet lane ++ lines_from sheet (lane + 1) n

abbrev pub lines : Sheet → List ℕ
lines sheet =
    codes "<g class=\"line\">\n"
    ++ lines_from sheet 0 sheet.lanes
    ++ codes "</g>\n"

-- ---- a scale

-- the number and the line of a moment of the sheet
abbrev pub mark : Sheet → (strip moment : ℕ) → List ℕ
mark sheet strip t =
    all_of (codes "<rect x=\"" ∷ decimal (across sheet t) ∷ codes "\" y=\"" ∷ decimal (top sheet strip + 4)
    ∷ codes "\" width=\"1\" height=\"" ∷ decimal (lane_top sheet.lanes - 4) ∷ codes "\"/>" ∷ [])
    ++ text_at sheet t 4 13
    ++ all_of (decimal (sheet.zero + t) ∷ codes "</text>\n" ∷ [])

-- up to the last one of the sheet
abbrev pub mark_if : Sheet → (strip moment : ℕ) → List ℕ
mark_if sheet strip t = if nat_le t sheet.last then mark sheet strip t else []

-- those of so many steps of 100 bit times from one on
abbrev pub marks_from : Sheet → (strip step count : ℕ) → List ℕ
marks_from sheet strip step zero = []
marks_from sheet strip step (suc n) = mark_if sheet strip (row_begin sheet strip + step * 100) ++ marks_from sheet strip (step + 1) n

abbrev pub scale : Sheet → (strip : ℕ) → List ℕ
scale sheet strip =
    codes "<g class=\"scale\">\n"
    ++ marks_from sheet strip 0 5
    ++ codes "</g>\n"

-- ---- the stations

-- the begin of a text left of a strip, so far below the top of the picture
abbrev pub label : (below : ℕ) → List ℕ
label below = codes "<text x=\"" ++ decimal 122 ++ codes "\" y=\"" ++ decimal below ++ codes "\">"

abbrev pub station : ScenarioView → Sheet → (strip lane tap : ℕ) → List ℕ
station s sheet strip lane tap = label (top sheet strip + lane_top lane + 18)
    ++ all_of (name_at s tap ∷ codes " <tspan>" ∷ decimal (address_at s tap) ∷ codes "</tspan></text>\n" ∷ [])

-- those of some lanes, the first of them at an index
abbrev pub stations_from : ScenarioView → Sheet → (strip lane : ℕ) (taps : List ℕ) → List ℕ
stations_from s sheet strip lane [] = []
stations_from s sheet strip lane (tap ∷ taps) = station s sheet strip lane tap ++ stations_from s sheet strip (lane + 1) taps

abbrev pub stations : ScenarioView → Sheet → (taps : List ℕ) (strip : ℕ) → List ℕ
stations s sheet taps strip =
    codes "<g class=\"name\">\n"
    ++ label (top sheet strip + 34)
    ++ codes "holder</text>\n"
    ++ stations_from s sheet strip 0 taps
    ++ codes "</g>\n"

-- ---- all rows

abbrev pub row_text : ScenarioView → Sheet → (taps : List ℕ) (strip : ℕ) → List ℕ
row_text s sheet taps strip = scale sheet strip ++ stations s sheet taps strip

abbrev pub rows_from : ScenarioView → Sheet → (taps : List ℕ) (strip count : ℕ) → List ℕ
rows_from s sheet taps strip zero = []
rows_from s sheet taps strip (suc n) = row_text s sheet taps strip ++ rows_from s sheet taps (strip + 1) n

abbrev pub lanes_text : ScenarioView → Sheet → (taps : List ℕ) → List ℕ
lanes_text s sheet taps = lines sheet ++ rows_from s sheet taps 0 (rows sheet)
