-- Where moments and lanes stand in a picture: rows of 500 bit times at 2 pixels each, right of the names of the stations.
use Rattle.std.specs.Prelude.{ℕ, zero, suc, ◌+◌, ◌-◌, ◌*◌, ◌/◌, ◌%◌, min, max, nat_le, nat_lt, if◌then◌else◌, List, [], ◌++◌, codes, decimal}
use Rattle.pb_export.specs.Sheets.{Sheet}
use Rattle.pb_export.specs.declared.places.Bar.{Bar}
use Rattle.pb_export.specs.declared.places.Stretch.{Stretch}

-- the strip of a moment, and how far right it stands there
abbrev pub strip : Sheet → ℕ → ℕ
strip sheet t = (t - sheet.from) / 500

abbrev pub across : Sheet → ℕ → ℕ
across sheet t = 130 + (t - sheet.from) % 500 * 2

-- a strip has 64 pixels beside those of its lanes, and the first begins 36 pixels below the top
abbrev pub row_height : Sheet → ℕ
row_height sheet = 64 + 28 * sheet.lanes

abbrev pub top : Sheet → (strip : ℕ) → ℕ
top sheet strip = 36 + strip * row_height sheet

-- at least one, and none without a moment before the last one
abbrev pub rows : Sheet → ℕ
rows sheet = strip sheet (sheet.last - 1) + 1

-- a stretch as far as it is on the sheet, counted as there
abbrev pub clip : Sheet → Stretch → Stretch
clip sheet x = record { begin = max (x.begin - sheet.zero) sheet.from; end = min (x.end - sheet.zero) sheet.last }

abbrev pub lane_top : ℕ → ℕ
lane_top lane = 44 + 28 * lane

-- ---- the parts of a stretch

abbrev pub row_begin : Sheet → (strip : ℕ) → ℕ
row_begin sheet strip = sheet.from + strip * 500

abbrev pub part : Sheet → Stretch → (strip : ℕ) → Stretch
part sheet x strip = record { begin = max x.begin (row_begin sheet strip); end = min x.end (row_begin sheet strip + 500) }

abbrev pub width : Stretch → ℕ
width x = (x.end - x.begin) * 2

-- where the word of a stretch stands: at its begin, or where its next strip begins, if it has more room there
abbrev pub word_moment : Sheet → Stretch → ℕ
word_moment sheet x =
    let next = part sheet x (strip sheet x.begin + 1) in
    if nat_lt (width (part sheet x (strip sheet x.begin))) (width next) then next.begin else x.begin

-- the rectangle of the part that is in a strip
abbrev pub bar : Sheet → Bar → Stretch → (strip : ℕ) → List ℕ
bar sheet b x strip =
    codes "<rect x=\"" ++ decimal (across sheet (part sheet x strip).begin) ++ codes "\" y=\"" ++ decimal (top sheet strip + b.below)
    ++ codes "\" width=\"" ++ decimal (width (part sheet x strip)) ++ codes "\" height=\"" ++ decimal b.height ++ codes "\"/>"

-- those of so many rows from one on
abbrev pub bars_from : Sheet → Bar → Stretch → (strip count : ℕ) → List ℕ
bars_from sheet b x strip zero = []
bars_from sheet b x strip (suc n) = bar sheet b x strip ++ bars_from sheet b x (strip + 1) n

-- how many rows have a part of a stretch that is not empty
abbrev pub rows_of : Sheet → Stretch → ℕ
rows_of sheet x = strip sheet (x.end - 1) + 1 - strip sheet x.begin

-- those of all rows
abbrev pub bars : Sheet → Bar → Stretch → List ℕ
bars sheet b x = if nat_le x.end x.begin then [] else bars_from sheet b x (strip sheet x.begin) (rows_of sheet x)

-- the begin of a text at a moment, so far right of it, and so far below the top of its strip
abbrev pub text_at : Sheet → (moment right below : ℕ) → List ℕ
text_at sheet t right below =
    codes "<text x=\"" ++ decimal (across sheet t + right) ++ codes "\" y=\"" ++ decimal (top sheet (strip sheet t) + below) ++ codes "\">"
