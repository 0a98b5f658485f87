-- Notes of marks, whose characters are stored elsewhere: undamaged ones as octets, and others as characters. A token's
-- three octets are in its note, and noise is one damaged character.
use Rattle.std.specs.Prelude.{◌≡◌, ◌≤◌, ℕ, List, [], ◌∷◌, length, map, take, drop}
use Rattle.pb_telegram.specs.declared.chars.RxChar.{RxChar}
use Rattle.pb_telegram.specs.declared.chars.RxChar.TheVariants.{Good, Bad}
use Rattle.law_turn.specs.Marks.{Mark, Begin, End}
use Rattle.pb_station.specs.declared.notes.Note.{Note}
use Rattle.pb_station.specs.declared.notes.Note.TheVariants as note

-- how many characters of a mark are in the list of characters
abbrev pub chars_of : Note → ℕ
chars_of (note.Begin at seen) = 0
chars_of (note.End at seen count) = count
chars_of (note.GoodEnd at seen count) = 0
chars_of (note.Three at seen three) = 0
chars_of (note.Noise at seen) = 0

-- how many octets of a mark are in the list of octets
abbrev pub octets_of : Note → ℕ
octets_of (note.Begin at seen) = 0
octets_of (note.End at seen count) = 0
octets_of (note.GoodEnd at seen count) = count
octets_of (note.Three at seen three) = 0
octets_of (note.Noise at seen) = 0

-- the mark of a note, with its characters and its octets
abbrev pub mark_with : Note → List RxChar → List ℕ → Mark
mark_with (note.Begin at seen) chars octets = Begin at seen
mark_with (note.End at seen count) chars octets = End at seen chars
mark_with (note.GoodEnd at seen count) chars octets = End at seen (map Good octets)
mark_with (note.Three at seen three) chars octets = End at seen (map Good three)
mark_with (note.Noise at seen) chars octets = End at seen (Bad ∷ [])

-- the marks of notes, with the characters of all of them in one list, and the octets in another
abbrev pub marks_in : List Note → List RxChar → List ℕ → List Mark
marks_in [] chars octets = []
marks_in (n ∷ ns) chars octets = mark_with n (take (chars_of n) chars) (take (octets_of n) octets)
    ∷ marks_in ns (drop (chars_of n) chars) (drop (octets_of n) octets)

-- the characters and octets are those of the notes, at most 255 for each
abbrev pub AreOf : List Note → List RxChar → List ℕ → Type 0
AreOf [] chars octets = (chars ≡ []) × (octets ≡ [])
AreOf (n ∷ ns) chars octets = (chars_of n ≤ length chars) × (chars_of n ≤ 255) × (octets_of n ≤ length octets) × (octets_of n ≤ 255)
    × AreOf ns (drop (chars_of n) chars) (drop (octets_of n) octets)
