-- A mark as plain data.
use Rattle.std.specs.Prelude.{ℕ, ◌≤◌, List, [], ◌∷◌, All}
use Rattle.pb_telegram.specs.declared.chars.RxChar.{RxChar}
use Rattle.law_turn.specs.Marks as turn
use Rattle.law_turn.specs.Marks.{moment_of}
use Rattle.pb_station.specs.declared.marks.Mark.{Mark}
use Rattle.pb_station.specs.declared.marks.Mark.TheVariants as mark

abbrev pub mark_of : Mark → turn.Mark
mark_of (mark.Begin at seen) = turn.Begin at seen
mark_of (mark.End at seen chars) = turn.End at seen chars.items

-- no mark has a moment later than the clock
abbrev pub AreOver : ℕ → List Mark → Type 0
AreOver now marks = All (λ m. moment_of (mark_of m) ≤ now) marks

abbrev pub AllOver : ℕ → List turn.Mark → Type 0
AllOver now [] = Unit {0}
AllOver now (m ∷ ms) = (moment_of m ≤ now) × AllOver now ms

-- the characters of a mark, and the mark with others in their place
abbrev pub brought : turn.Mark → List RxChar
brought (turn.Begin at seen) = []
brought (turn.End at seen chars) = chars

abbrev pub bringing : turn.Mark → List RxChar → turn.Mark
bringing (turn.Begin at seen) more = turn.Begin at seen
bringing (turn.End at seen chars) more = turn.End at seen more
