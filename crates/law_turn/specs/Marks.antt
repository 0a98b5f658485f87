-- How a station hears the bus.
use Rattle.std.specs.Prelude.{◌≡◌, ℕ, Bool, true, false, List, [], ◌∷◌}
use Rattle.pb_telegram.specs.declared.chars.RxChar.{RxChar}

-- activity of others begins or ends at a moment; the mark is delivered at the moment `seen`; an End has the characters
pub data Mark : Type 0 where
  Begin : (at seen : ℕ) → Mark
  End : (at seen : ℕ) (chars : List RxChar) → Mark

-- the moment of the begin or end
abbrev pub moment_of : Mark → ℕ
moment_of (Begin at seen) = at
moment_of (End at seen chars) = at

abbrev pub seen_at : Mark → ℕ
seen_at (Begin at seen) = seen
seen_at (End at seen chars) = seen

-- Begins and Ends alternate, from whether there is activity before to whether there is some after
abbrev pub Alternates : Bool → List Mark → Bool → Type 0
Alternates before [] after = before ≡ after
Alternates true (Begin at seen ∷ ms) after = ⊥
Alternates false (Begin at seen ∷ ms) after = Alternates true ms after
Alternates true (End at seen chars ∷ ms) after = Alternates false ms after
Alternates false (End at seen chars ∷ ms) after = ⊥
