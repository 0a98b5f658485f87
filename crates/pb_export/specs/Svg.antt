-- A trace as a picture.
use Rattle.std.specs.Prelude.{ℕ, ◌+◌, ◌-◌, ◌/◌, ◌*◌, ◌==◌, min, if◌then◌else◌, List, ◌++◌, [], ◌∷◌, length, codes, decimal}
use Rattle.std.specs.List.{flat_map}
use Rattle.law_model.specs.Trace.{Entry}
use Rattle.law_runs.specs.Scenarios.{Planned}
use Rattle.pb_scenario.specs.Repeats.{StreamView, happenings}
use Rattle.pb_scenario.specs.Scenarios.{ScenarioView}
use Rattle.pb_export.specs.declared.options.Window.{Window}
use Rattle.pb_export.specs.Sheets.{Sheet}
use Rattle.pb_export.specs.Pieces.{all_of}
use Rattle.pb_export.specs.Windows.{shown_in}
use Rattle.pb_export.specs.Times.{last_moment}
use Rattle.pb_export.specs.Holders.{tenures_of}
use Rattle.pb_export.specs.Places.{rows, top}
use Rattle.pb_export.specs.Lanes.{lanes_text}
use Rattle.pb_export.specs.Boxes.{entry_box, tenure_box}
use Rattle.pb_export.specs.Marks.{marks_text}
use Rattle.pb_export.specs.Rosters.{lanes_of}
use Rattle.pb_export.specs.Styles.{light, dark, patterns, legend}

-- from a multiple of 100 bit times on, with some lanes
abbrev pub sheet_of : Window → (until : ℕ) → List Entry → (lanes : List ℕ) → Sheet
sheet_of w until es lanes = record { zero = 0; from = w.from / 100 * 100; last = last_moment w until es; lanes = length lanes }

abbrev pub head_with : Sheet → (legend : List ℕ) → List ℕ
head_with sheet legend =
    let height = decimal (top sheet (rows sheet)) in
    all_of (codes "<svg xmlns=\"http://www.w3.org/2000/svg\" width=\"" ∷ decimal 1170 ∷ codes "\" height=\"" ∷ height
    ∷ codes "\" viewBox=\"0 0 " ∷ decimal 1170 ∷ codes " " ∷ height ∷ codes "\">\n" ∷ light ∷ dark ∷ patterns
    ∷ codes "<rect class=\"paper\" width=\"100%\" height=\"100%\"/>\n" ∷ legend ∷ [])

abbrev pub head : Sheet → List ℕ
head sheet = head_with sheet legend

-- how many stations have no lane, if there are any
abbrev pub left_out : ℕ → List ℕ
left_out n =
    if n == 0 then []
    else all_of (codes "<text x=\"890\" y=\"21\">without " ∷ decimal n ∷ codes " passive stations that send nothing</text>\n" ∷ [])

-- who holds the token
abbrev pub band : ScenarioView → Sheet → List Entry → List ℕ
band s sheet es = flat_map (tenure_box s sheet) (tenures_of s es sheet.from sheet.last)

abbrev pub boxes : Window → ScenarioView → Sheet → (lanes : List ℕ) → List Entry → List ℕ
boxes w s sheet lanes es = shown_in w (entry_box s sheet lanes) es

-- the lanes, who holds the token, and the entries that are shown
abbrev pub traced : Window → ScenarioView → List Entry → Sheet → (lanes : List ℕ) → List ℕ
traced w s es sheet lanes =
    head sheet
    ++ left_out (length s.scenario.taps - length lanes)
    ++ lanes_text s sheet lanes
    ++ band s sheet es
    ++ boxes w s sheet lanes es

-- A sheet up to the last moment at which a step happens. What is sent may end behind it.
abbrev pub with_steps : Window → (until : ℕ) → Sheet → Sheet
with_steps w until sheet = record sheet { last = min sheet.last (min w.until until + 1) }

-- the run of a scenario's bus with some steps up to a moment
abbrev pub drawn : Window → ScenarioView → (until : ℕ) → List Planned → List Entry → List ℕ
drawn w s until steps es =
    let lanes = lanes_of s.scenario.taps es in
    let sheet = sheet_of w until es lanes in
    traced w s es sheet lanes
    ++ marks_text s (with_steps w until sheet) lanes steps
    ++ codes "</svg>\n"

abbrev pub svg_text : Window → ScenarioView → List Entry → List ℕ
svg_text w s es = drawn w s s.scenario.until s.scenario.steps es

-- of a scenario whose steps may repeat, with each happening of a step
abbrev pub stream_svg_text : Window → StreamView → List Entry → List ℕ
stream_svg_text w s es = drawn w s.once s.until (happenings s.until s.repeats s.once.scenario.steps) es
