-- The text of the numbers of a bus: lines, or one JSON object.
use Rattle.std.specs.Prelude.{ℕ, ◌+◌, ◌-◌, ◌*◌, ◌/◌, ◌%◌, ◌==◌, Bool, true, false, ◌&&◌, if◌then◌else◌, List, [], ◌∷◌, ◌++◌, codes, decimal}
use Rattle.pb_timers.specs.Timers.{Params, tto}
use Rattle.law_model.specs.Medium.{TapSpec}
use Rattle.law_live.specs.NeverDead.{longest_without}
use Rattle.law_rings.specs.Rotation.{rotation_time}
use Rattle.pb_scenario.specs.Scenarios.{ScenarioView}
use Rattle.pb_texts.specs.declared.numbers.Rounding.{Rounding}
use Rattle.pb_texts.specs.declared.numbers.Rounding.TheVariants.{Up, Down}
use Rattle.pb_texts.specs.Bounds.{silence_bound, beyond_ttr, take_margin, reply_margin, lag_margin, masters_of, never_asks, is_round_long, shortest_asking, shortest_round}

-- Some words are unfolded in few proofs alone, so that longer texts stay short terms.

-- ---- numbers

-- Bit times at a number of bits a second, in microseconds: a bound is rounded up, a margin down.
unfoldable pub micros : Rounding → (baud bits : ℕ) → ℕ
micros Up baud n = (n * 1000000 + (baud - 1)) / baud
micros Down baud n = n * 1000000 / baud

-- a thousandth of a number, with three decimals
unfoldable pub thousandth : ℕ → List ℕ
thousandth n = decimal (n / 1000) ++ codes "." ++ decimal (n / 100 % 10) ++ decimal (n / 10 % 10) ++ decimal (n % 10)

-- bit times in milliseconds
unfoldable pub millis : Rounding → (baud bits : ℕ) → List ℕ
millis r baud n = thousandth (micros r baud n)

-- ---- lines

-- bit times, in milliseconds too, and the law or the rule that they are from
unfoldable pub number_line : Rounding → (baud : ℕ) (title : List ℕ) (bits : ℕ) (law : List ℕ) → List ℕ
number_line r baud title n law = title ++ decimal n ++ codes " bit times, " ++ millis r baud n ++ codes " ms (" ++ law ++ codes ")\n"

abbrev pub master_lines : (baud : ℕ) → Params → (name : List ℕ) (address : ℕ) → List ℕ
master_lines baud p name address =
    name ++ number_line Up baud (codes ": time-out ") (tto p address) (codes "a_claim_waits_for_a_time_out")
    ++ name ++ number_line Up baud (codes ": silence bound ") (silence_bound p address) (codes "no_master_is_left_in_silence")
    ++ name ++ number_line Up baud (codes ": never-dead bound ") (longest_without p address) (codes "the_bus_is_never_dead")

-- those of a tap, if it is a master
abbrev pub tap_lines : (baud : ℕ) → Params → (name : List ℕ) → TapSpec → List ℕ
tap_lines baud p name spec = if spec.master then master_lines baud p name spec.address else []

abbrev pub taps_lines : (baud : ℕ) → Params → List (List ℕ) → List TapSpec → List ℕ
taps_lines baud p [] specs = []
taps_lines baud p (name ∷ names) [] = []
taps_lines baud p (name ∷ names) (spec ∷ specs) = tap_lines baud p name spec ++ taps_lines baud p names specs

-- those of a ring of all masters, if there is one
abbrev pub rotation_lines : (baud : ℕ) → Params → (masters : ℕ) → List ℕ
rotation_lines baud p masters =
    if masters == 0 then []
    else number_line Up baud (codes "rotation bound ") (rotation_time p masters) (codes "a_rotation_is_bounded")
    ++ number_line Up baud (codes "rotation bound beyond ttr ") (beyond_ttr p masters) (codes "a_rotation_is_bounded")

abbrev pub margin_lines : (baud : ℕ) → Params → List ℕ
margin_lines baud p =
    number_line Down baud (codes "slot margin of a take ") (take_margin p) (codes "TakeLate")
    ++ number_line Down baud (codes "slot margin of a reply ") (reply_margin p) (codes "ReplyLate")
    ++ number_line Down baud (codes "lag margin ") (lag_margin p) (codes "TakeLate, ReplyLate")

-- ---- warnings

-- the words of a warning, and the number that is wanted behind them
unfoldable pub asks_words : List ℕ
asks_words = codes "ttr is at most the shortest rotation and an idle time: after a first receipt a ring of all masters sends no GAP request; wanted: over "

unfoldable pub round_words : List ℕ
round_words = codes "a GAP round of all free addresses takes longer than gap * ttr, after which the next is due; wanted: at least "

unfoldable pub line_if : Bool → (words : List ℕ) (wanted : ℕ) → List ℕ
line_if true words wanted = codes "warning: " ++ words ++ decimal wanted ++ codes "\n"
line_if false words wanted = []

abbrev pub warning_lines : Params → (masters : ℕ) → List ℕ
warning_lines p masters =
    line_if (never_asks p masters) asks_words (shortest_asking p masters)
    ++ line_if (is_round_long p masters) round_words (shortest_round p masters)

abbrev pub bounds_text : (baud : ℕ) → ScenarioView → List ℕ
bounds_text baud s =
    let p = s.scenario.params in
    taps_lines baud p s.names s.scenario.taps ++ rotation_lines baud p (masters_of s.scenario.taps)
    ++ margin_lines baud p ++ warning_lines p (masters_of s.scenario.taps)

-- ---- JSON

-- a member of an object: its key with what stands before it, and bit times, in milliseconds too
unfoldable pub member : Rounding → (baud : ℕ) (key : List ℕ) (bits : ℕ) → List ℕ
member r baud key n = key ++ codes "{\"bit_times\":" ++ decimal n ++ codes ",\"ms\":" ++ millis r baud n ++ codes "}"

abbrev pub master_object : (baud : ℕ) → Params → (name : List ℕ) (address : ℕ) → List ℕ
master_object baud p name address =
    codes "{\"name\":\"" ++ name ++ codes "\""
    ++ member Up baud (codes ",\"time_out\":") (tto p address)
    ++ member Up baud (codes ",\"silence_bound\":") (silence_bound p address)
    ++ member Up baud (codes ",\"never_dead_bound\":") (longest_without p address)
    ++ codes "}"

unfoldable pub comma_if : Bool → List ℕ
comma_if true = codes ","
comma_if false = []

-- the masters among some taps, behind others or as the first ones
abbrev pub master_objects : (baud : ℕ) → Params → (behind : Bool) → List (List ℕ) → List TapSpec → List ℕ
master_objects baud p behind [] specs = []
master_objects baud p behind (name ∷ names) [] = []
master_objects baud p behind (name ∷ names) (spec ∷ specs) =
    if spec.master then comma_if behind ++ master_object baud p name spec.address ++ master_objects baud p true names specs
    else master_objects baud p behind names specs

-- those of a ring of all masters, if there is one
abbrev pub rotation_members : (baud : ℕ) → Params → (masters : ℕ) → List ℕ
rotation_members baud p masters =
    if masters == 0 then []
    else member Up baud (codes ",\"rotation_bound\":") (rotation_time p masters)
    ++ member Up baud (codes ",\"rotation_bound_beyond_ttr\":") (beyond_ttr p masters)

abbrev pub margin_members : (baud : ℕ) → Params → List ℕ
margin_members baud p =
    member Down baud (codes ",\"take_margin\":") (take_margin p)
    ++ member Down baud (codes ",\"reply_margin\":") (reply_margin p)
    ++ member Down baud (codes ",\"lag_margin\":") (lag_margin p)

-- a warning in quotes, if there is one
unfoldable pub quoted_if : Bool → (words : List ℕ) (wanted : ℕ) → List ℕ
quoted_if true words wanted = codes "\"" ++ words ++ decimal wanted ++ codes "\""
quoted_if false words wanted = []

abbrev pub warning_items : Params → (masters : ℕ) → List ℕ
warning_items p masters =
    quoted_if (never_asks p masters) asks_words (shortest_asking p masters)
    ++ comma_if (never_asks p masters && is_round_long p masters)
    ++ quoted_if (is_round_long p masters) round_words (shortest_round p masters)

unfoldable pub masters_member : (baud : ℕ) → ScenarioView → List ℕ
masters_member baud s = codes ",\"masters\":[" ++ master_objects baud s.scenario.params false s.names s.scenario.taps ++ codes "]"

unfoldable pub warnings_member : Params → (masters : ℕ) → List ℕ
warnings_member p masters = codes ",\"warnings\":[" ++ warning_items p masters ++ codes "]}\n"

abbrev pub bounds_json : (baud : ℕ) → ScenarioView → List ℕ
bounds_json baud s =
    let p = s.scenario.params in
    codes "{\"baud\":" ++ decimal baud ++ masters_member baud s ++ rotation_members baud p (masters_of s.scenario.taps)
    ++ margin_members baud p ++ warnings_member p (masters_of s.scenario.taps)
