-- The text of a trace.
use Rattle.std.specs.Prelude.{ℕ, ◌<◌, List, [], ◌∷◌, ◌++◌, map, codes, decimal, slice_index_or}
use Rattle.hex.specs.Hex.{encode_lower}
use Rattle.law_model.specs.Trace as trace
use Rattle.law_model.specs.Trace.{Heard, Own, Whole, Damaged, Unheard, Pending, Record, Entry, Sent}

-- the letter for how a telegram reached a tap
abbrev pub letter_of : Heard → ℕ
letter_of Own = 0x2d
letter_of Whole = 0x77
letter_of Damaged = 0x64
letter_of Unheard = 0x75
letter_of Pending = 0x2e

abbrev pub span_text : ℕ → ℕ → List ℕ
span_text begin end = decimal begin ++ codes " " ++ decimal end ++ codes " "

-- the text of a telegram, given the names of the taps
abbrev pub record_text : List (List ℕ) → Record → List ℕ
record_text names r =
    span_text r.begin r.end ++ slice_index_or names r.tap [] ++ codes " " ++ encode_lower r.octets ++ codes " " ++ map letter_of r.heard ++ codes "\n"

abbrev pub entry_text : List (List ℕ) → Entry → List ℕ
entry_text names (Sent r) = record_text names r
entry_text names (trace.Noise span) = span_text span.begin span.end ++ codes "~ noise\n"

abbrev pub entries_text : List (List ℕ) → List Entry → List ℕ
entries_text names [] = []
entries_text names (e ∷ es) = entry_text names e ++ entries_text names es

-- the tap of an entry is one of this many
abbrev pub IsOfTaps : ℕ → Entry → Type 0
IsOfTaps taps (Sent r) = r.tap < taps
IsOfTaps taps (trace.Noise span) = Unit {0}

abbrev pub AreOfTaps : ℕ → List Entry → Type 0
AreOfTaps taps [] = Unit {0}
AreOfTaps taps (e ∷ es) = IsOfTaps taps e × AreOfTaps taps es
