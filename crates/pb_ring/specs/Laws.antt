-- The words of the laws of lists and rounds.
use Rattle.std.specs.Prelude.{◌≡◌, ℕ, All, true, false, List, [], ◌∷◌, ◌++◌, Option, Some, None}
use Rattle.pb_ring.specs.declared.gaps.Round.{Round}
use Rattle.pb_ring.specs.declared.gaps.Round.TheVariants.{Open, Closed}
use Rattle.pb_ring.specs.AddressSets.{is_between, last_of}
use Rattle.pb_ring.specs.Las.{LasTable, place_of}
use Rattle.pb_ring.specs.Gap.{last_asked, next_asked, round_after}

-- a station in the ring has counted this many tokens that skipped it
abbrev pub CountsTo : LasTable → ℕ → ℕ → Type 0
CountsTo t ts count = place_of t.stage ≡ Some (record { address = ts; skipped = count })

-- ---- rounds

-- the result of a look for an address of the GAP
pub data Look : Type 0 where
  Asks : (address : ℕ) → Look
  Closes : (at : ℕ) → Look

abbrev pub look_of : Option ℕ → ℕ → Look
look_of None now = Closes now
look_of (Some a) now = Asks a

-- the addresses asked since the round was last closed; some were asked before the list
abbrev pub asked_in_round : List ℕ → List Look → List ℕ
asked_in_round before [] = before
asked_in_round before (Asks a ∷ looks) = asked_in_round (before ++ a ∷ []) looks
asked_in_round before (Closes at ∷ looks) = asked_in_round [] looks

-- the moment at which the last look closed the round
abbrev pub closed_at_end : Option ℕ → List Look → Option ℕ
closed_at_end before [] = before
closed_at_end before (Asks a ∷ looks) = closed_at_end None looks
closed_at_end before (Closes at ∷ looks) = closed_at_end (Some at) looks

abbrev pub round_with : Option ℕ → List ℕ → Round
round_with None asked = Open (last_of asked)
round_with (Some at) asked = Closed at

-- the round after all looks so far
abbrev pub round_of_looks : List Look → Round
round_of_looks looks = round_with (closed_at_end None looks) (asked_in_round [] looks)

-- a round represents the looks so far
abbrev pub StandsForLooks : Round → List Look → Type 0
StandsForLooks round looks = round ≡ round_of_looks looks

-- the results of looks at some moments, with the same next station
abbrev pub answers : ℕ → ℕ → ℕ → Round → List ℕ → List (Option ℕ)
answers ts ns hsa round [] = []
answers ts ns hsa round (now ∷ more) =
    next_asked ts ns hsa (last_asked round) ∷ answers ts ns hsa (round_after (next_asked ts ns hsa (last_asked round)) now) more

-- the round after these looks
abbrev pub round_at_end : ℕ → ℕ → ℕ → Round → List ℕ → Round
round_at_end ts ns hsa round [] = round
round_at_end ts ns hsa round (now ∷ more) = round_at_end ts ns hsa (round_after (next_asked ts ns hsa (last_asked round)) now) more

-- Addresses in cyclic order up to a station: each later one is between an earlier one and the station, and not the
-- other way round.
abbrev pub InTurn : ℕ → List ℕ → Type 0
InTurn ts [] = Unit {0}
InTurn ts (x ∷ xs) = All (λ y. (is_between x ts y ≡ true) × (is_between y ts x ≡ false)) xs × InTurn ts xs
