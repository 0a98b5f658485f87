-- A trace as a value change dump: the lines of the stations and of the bus, bit by bit.
use Rattle.std.specs.Prelude.{ℕ, zero, suc, ◌+◌, ◌-◌, Bool, true, false, ◌==◌, bytes_eq, if◌then◌else◌, List, [], ◌∷◌, ◌++◌, length, map, slice_get, codes, decimal, Option, Some, None}
use Rattle.std.specs.List.{flat_map}
use Rattle.pb_telegram.specs.declared.chars.RxChar.TheVariants.{Good}
use Rattle.law_turn.specs.Arrivals.{arrival_of}
use Rattle.law_model.specs.Trace.{Record, Entry, Sent, Noise}
use Rattle.pb_scenario.specs.Scenarios.{ScenarioView}
use Rattle.pb_export.specs.declared.options.Window.{Window}
use Rattle.pb_export.specs.declared.options.Strings.{Strings}
use Rattle.pb_export.specs.declared.options.Strings.TheVariants.{Shown, LeftOut}
use Rattle.pb_export.specs.declared.levels.Level.{Level}
use Rattle.pb_export.specs.declared.levels.Level.TheVariants.{High}
use Rattle.pb_export.specs.Pieces.{all_of}
use Rattle.pb_export.specs.Times.{nanos, last_moment}
use Rattle.pb_export.specs.Saying.{word_text}
use Rattle.pb_export.specs.Levels.{digit, is_on, level_at, level_before, bus_at}

-- ---- before the first moment

abbrev pub stamp : (baud moment : ℕ) → List ℕ
stamp baud t = codes "#" ++ decimal (nanos baud t) ++ codes "\n"

abbrev pub string_variable : Strings → List ℕ
string_variable Shown = codes "$var string 1 s telegram $end\n"
string_variable LeftOut = []

-- the line of a station
abbrev pub line_variable : ℕ → (name : List ℕ) → List ℕ
line_variable tap name = all_of (codes "$var wire 1 t" ∷ decimal tap ∷ codes " " ∷ name ∷ codes " $end\n" ∷ [])

-- those of some stations, the first of them at an index
abbrev pub line_variables : ℕ → List (List ℕ) → List ℕ
line_variables tap [] = []
line_variables tap (name ∷ names) = line_variable tap name ++ line_variables (tap + 1) names

abbrev pub variables : Strings → ScenarioView → List ℕ
variables strings s =
    codes "$version ringplay $end\n$timescale 1 ns $end\n"
    ++ codes "$scope module ringplay $end\n$var wire 1 b bus $end\n"
    ++ string_variable strings
    ++ codes "$scope module stations $end\n"
    ++ line_variables 0 s.names
    ++ codes "$upscope $end\n$upscope $end\n$enddefinitions $end\n"

abbrev pub idle_string : Strings → List ℕ
idle_string Shown = codes "s- s\n"
idle_string LeftOut = []

abbrev pub idle_lines : (tap taps : ℕ) → List ℕ
idle_lines tap zero = []
idle_lines tap (suc taps) = (codes "1t" ++ decimal tap ++ codes "\n") ++ idle_lines (tap + 1) taps

abbrev pub idle : Strings → (taps : ℕ) → List ℕ
idle strings taps =
    codes "$dumpvars\n1b\n"
    ++ idle_string strings
    ++ idle_lines 0 taps
    ++ codes "$end\n"

-- ---- the changes of a moment

abbrev pub is_same : Level → Level → Bool
is_same one other = bytes_eq (digit one) (digit other)

-- of a telegram's line
abbrev pub line_change : Record → ℕ → List ℕ
line_change r t =
    if is_same (level_at r t) (level_before r t) then []
    else (digit (level_at r t) ++ codes "t" ++ decimal r.tap ++ codes "\n")

abbrev pub entry_change : Window → ℕ → Entry → List ℕ
entry_change w t (Noise span) = []
entry_change w t (Sent r) = if is_on w (Sent r) t then line_change r t else []

-- of the bus
abbrev pub level_change : (before level : Level) → List ℕ
level_change before level = if is_same level before then [] else (digit level ++ codes "b\n")

abbrev pub underscored : ℕ → ℕ
underscored byte = if byte == 32 then 95 else byte

abbrev pub entry_name : Entry → List ℕ
entry_name (Noise span) = codes "noise"
entry_name (Sent r) = map underscored (word_text (arrival_of (map Good r.octets)))

-- the index of an entry, if it is on the bus; else another one
abbrev pub named_with : Window → ℕ → (place : ℕ) → Option ℕ → Entry → Option ℕ
named_with w t place found e = if is_on w e t then Some place else found

-- the index of the last entry that is on the bus, the first of these at an index
abbrev pub named_from : Window → ℕ → (place : ℕ) → Option ℕ → List Entry → Option ℕ
named_from w t place found [] = found
named_from w t place found (e ∷ es) = named_from w t (place + 1) (named_with w t place found e) es

abbrev pub named_at : Window → (place : ℕ) → List Entry → ℕ → Option ℕ
named_at w place es t = named_from w t place None es

abbrev pub is_same_place : Option ℕ → Option ℕ → Bool
is_same_place None None = true
is_same_place None (Some n) = false
is_same_place (Some m) None = false
is_same_place (Some m) (Some n) = m == n

abbrev pub name_of : Option Entry → List ℕ
name_of None = codes "-"
name_of (Some e) = entry_name e

-- the entry with an index among some entries, the first of these at an index
abbrev pub named_entry : (place : ℕ) → List Entry → Option ℕ → Option Entry
named_entry place es None = None
named_entry place es (Some n) = slice_get es (n - place)

abbrev pub name_text : (place : ℕ) → List Entry → Option ℕ → List ℕ
name_text place es named =
    codes "s"
    ++ name_of (named_entry place es named)
    ++ codes " s\n"

abbrev pub name_change : Strings → (place : ℕ) → List Entry → (before named : Option ℕ) → List ℕ
name_change LeftOut place es before named = []
name_change Shown place es before named = if is_same_place before named then [] else name_text place es named

-- ---- all moments

-- what a moment changes, behind its stamp
abbrev pub stamped : (baud moment : ℕ) → List ℕ → List ℕ
stamped baud t [] = []
stamped baud t (byte ∷ bytes) = stamp baud t ++ byte ∷ bytes

-- the first of the entries has an index
abbrev pub moment : (baud : ℕ) → Strings → Window → (place : ℕ) → List Entry → Level → Option ℕ → ℕ → List ℕ
moment baud strings w place es level named t = stamped baud t (
    flat_map (entry_change w t) es
    ++ level_change level (bus_at w es t)
    ++ name_change strings place es named (named_at w place es t))

-- so many moments from one on; the bus had a level and a name before
abbrev pub moments : (baud : ℕ) → Strings → Window → (place : ℕ) → List Entry → Level → Option ℕ → ℕ → ℕ → List ℕ
moments baud strings w place es level named t zero = []
moments baud strings w place es level named t (suc n) =
    moment baud strings w place es level named t
    ++ moments baud strings w place es (bus_at w es t) (named_at w place es t) (t + 1) n

-- from the window's first moment to the last one, with the line of that
abbrev pub waves : (baud : ℕ) → Strings → Window → List Entry → (last : ℕ) → List ℕ
waves baud strings w es last = moments baud strings w 0 es High None w.from (last + 1 - w.from) ++ stamp baud last

-- ---- a dump

abbrev pub vcd_head : (baud : ℕ) → Strings → Window → ScenarioView → List ℕ
vcd_head baud strings w s =
    variables strings s
    ++ stamp baud w.from
    ++ idle strings (length s.scenario.taps)

-- of a run up to a moment
abbrev pub vcd_body : (baud : ℕ) → Strings → Window → (until : ℕ) → List Entry → List ℕ
vcd_body baud strings w until es = waves baud strings w es (last_moment w until es)

abbrev pub vcd_text : (baud : ℕ) → Strings → Window → ScenarioView → List Entry → List ℕ
vcd_text baud strings w s es = vcd_head baud strings w s ++ vcd_body baud strings w s.scenario.until es
