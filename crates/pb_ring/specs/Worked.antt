-- Worked lists, computed by the definitions.
use Rattle.std.specs.Prelude.{ℕ, List, [], ◌∷◌}
use Rattle.pb_ring.specs.Las.{LasTable, heard}

-- a table after several tokens, each with its source and its destination
abbrev pub all_heard : LasTable → List (ℕ × ℕ) → LasTable
all_heard t [] = t
all_heard t (token ∷ tokens) = all_heard (heard t token.0 token.1) tokens

-- three stations pass the token around twice, with one retry
abbrev pub two_rotations : List (ℕ × ℕ)
two_rotations = (2, 5) ∷ (5, 9) ∷ (9, 2) ∷ (9, 2) ∷ (2, 5) ∷ (5, 9) ∷ (9, 2) ∷ []

-- one rotation, and half of a second one
abbrev pub over_a_station : List (ℕ × ℕ)
over_a_station = (5, 9) ∷ (9, 2) ∷ (2, 5) ∷ (5, 9) ∷ []
