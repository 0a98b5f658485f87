-- The marks of a scenario's steps in a picture: starts, stops, and stretches in which a station is withheld.
use Rattle.std.specs.Prelude.{ℕ, ◌+◌, ◌-◌, ◌*◌, ◌/◌, ◌^◌, ◌≤◌, ◌<◌, min, ◌&&◌, ◌==◌, nat_le, nat_lt, if◌then◌else◌, List, [], ◌∷◌, ◌++◌, position, codes, decimal, Option, Some, None}
use Rattle.std.specs.List.{flat_map}
use Rattle.law_model.specs.World.{Event, Unheard, Turn, Pass, Damage, Start, Stop, Queue, Noise}
use Rattle.law_runs.specs.Scenarios.{Deed, Happens, Withhold, Planned}
use Rattle.pb_scenario.specs.Repeats.{happenings, series}
use Rattle.pb_scenario.specs.Scenarios.{ScenarioView}
use Rattle.pb_scenario.specs.Steps.{steps_of}
use Rattle.pb_export.specs.declared.marks.Series.{Series}
use Rattle.pb_export.specs.declared.marks.Steps.{Steps}
use Rattle.pb_export.specs.Sheets.{Sheet}
use Rattle.pb_export.specs.declared.places.Stretch.{Stretch}
use Rattle.pb_export.specs.Pieces.{all_of}
use Rattle.pb_export.specs.Names.{name_at}
use Rattle.pb_export.specs.Places.{across, bars, clip, lane_top, strip, text_at, top}

abbrev pub title : (at : ℕ) (name word : List ℕ) → List ℕ
title at name word =
    all_of (codes "<g class=\"step\"><title>" ∷ decimal at ∷ codes ": " ∷ word ∷ codes " " ∷ name ∷ codes "</title>" ∷ [])

-- a thin bar and a word
abbrev pub moment : Sheet → (at lane : ℕ) (name word : List ℕ) → List ℕ
moment sheet at lane name word =
    title at name word
    ++ all_of (codes "<rect x=\"" ∷ decimal (across sheet at) ∷ codes "\" y=\"" ∷ decimal (top sheet (strip sheet at) + lane_top lane + 2)
    ∷ codes "\" width=\"3\" height=\"24\"/>" ∷ [])
    ++ text_at sheet at 6 (lane_top lane + 12)
    ++ all_of (word ∷ codes "</text></g>\n" ∷ [])

-- a bar below the boxes of the lane
abbrev pub withheld : Sheet → Stretch → (lane : ℕ) (name : List ℕ) → List ℕ
withheld sheet x lane name =
    title x.begin name (codes "withhold")
    ++ bars sheet (record { below = lane_top lane + 25; height = 3 }) (clip sheet x)
    ++ text_at sheet x.begin 1 (lane_top lane + 22)
    ++ codes "withheld</text></g>\n"

-- the tap of a step that has a mark
abbrev pub event_tap : Event → Option ℕ
event_tap (Start tap) = Some tap
event_tap (Stop tap) = Some tap
event_tap (Turn tap) = None
event_tap (Pass bits) = None
event_tap (Damage tap speaker place) = None
event_tap (Queue tap request) = None
event_tap (Noise bits) = None
event_tap (Unheard tap speaker) = None

abbrev pub marked_tap : Deed → Option ℕ
marked_tap (Happens e) = event_tap e
marked_tap (Withhold tap bits) = Some tap

abbrev pub event_mark : Sheet → (at lane : ℕ) (name : List ℕ) → Event → List ℕ
event_mark sheet at lane name (Start tap) = moment sheet at lane name (codes "start")
event_mark sheet at lane name (Stop tap) = moment sheet at lane name (codes "stop")
event_mark sheet at lane name (Turn tap) = []
event_mark sheet at lane name (Pass bits) = []
event_mark sheet at lane name (Damage tap speaker place) = []
event_mark sheet at lane name (Queue tap request) = []
event_mark sheet at lane name (Noise bits) = []
event_mark sheet at lane name (Unheard tap speaker) = []

-- what a step does, in a lane
abbrev pub does_mark : Sheet → (at lane : ℕ) (name : List ℕ) → Deed → List ℕ
does_mark sheet at lane name (Happens e) = event_mark sheet at lane name e
does_mark sheet at lane name (Withhold tap bits) = withheld sheet (record { begin = at; end = at + bits }) lane name

abbrev pub deed_mark : Sheet → (lane : ℕ) (name : List ℕ) → Planned → List ℕ
deed_mark sheet lane name p = does_mark sheet p.at lane name p.deed

abbrev pub in_lane : Sheet → (name : List ℕ) → Planned → (lane : Option ℕ) → List ℕ
in_lane sheet name p None = []
in_lane sheet name p (Some lane) = deed_mark sheet lane name p

abbrev pub at_tap : ScenarioView → Sheet → (lanes : List ℕ) → Planned → Option ℕ → List ℕ
at_tap s sheet lanes p None = []
at_tap s sheet lanes p (Some tap) = in_lane sheet (name_at s tap) p (position (λ other. other == tap) lanes)

abbrev pub mark : ScenarioView → Sheet → (lanes : List ℕ) → Planned → List ℕ
mark s sheet lanes p = at_tap s sheet lanes p (marked_tap p.deed)

abbrev pub mark_if : ScenarioView → Sheet → (lanes : List ℕ) → Planned → List ℕ
mark_if s sheet lanes p = if nat_le sheet.from p.at && nat_lt p.at sheet.last then mark s sheet lanes p else []

-- the marks of some happenings of steps
abbrev pub marks_text : ScenarioView → Sheet → (lanes : List ℕ) → List Planned → List ℕ
marks_text s sheet lanes steps = flat_map (mark_if s sheet lanes) steps

-- ---- steps that repeat

-- all happenings of the steps of a run
abbrev pub happenings_in : Steps → List Planned
happenings_in x = happenings x.until x.repeats.now (steps_of x.once.now)

-- happenings of one step
abbrev pub happenings_of : Series → Deed → List Planned
happenings_of x deed = series x.at x.every x.count deed

abbrev pub IsSteadySeries : Series → Type 0
IsSteadySeries x = (1 ≤ x.every) × (x.every < 2 ^ 63)

abbrev pub without : (gone : ℕ) → Series → Series
without gone x = record { at = x.at + gone * x.every; every = x.every; count = x.count - gone }

-- without those before a moment, of which the last may be left
abbrev pub skipped : (from : ℕ) → Series → Series
skipped from x = without (min ((from - x.at) / x.every) x.count) x

-- without the first
abbrev pub rest_of : Series → Series
rest_of x = record { at = x.at + x.every; every = x.every; count = x.count - 1 }
