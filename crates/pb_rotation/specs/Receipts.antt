-- The target rotation time, by everything that a station did with the token.
use Rattle.std.specs.Prelude.{ℕ, Bool, false, ◌||◌, List, [], ◌∷◌, reverse, is_none, Option, Some, None}

-- the token is received, or a high priority cycle is started with it
pub data Happening : Type 0 where
  Received : ℕ → Happening
  StartedHigh : Happening

-- the moments at which the token was received
abbrev pub receipts : List Happening → List ℕ
receipts [] = []
receipts (Received at ∷ happenings) = at ∷ receipts happenings
receipts (StartedHigh ∷ happenings) = receipts happenings

-- the newest of receipts in order from the newest
abbrev pub newest : List ℕ → Option ℕ
newest [] = None
newest (last ∷ older) = Some last

-- whether a high priority cycle was started since the last receipt
abbrev pub has_started_high : List Happening → Bool
has_started_high [] = false
has_started_high (Received at ∷ happenings) = has_started_high happenings
has_started_high (StartedHigh ∷ happenings) = is_none (newest (receipts happenings)) || has_started_high happenings

-- the second newest of receipts in order from the newest, or the only one
abbrev pub previous : List ℕ → Option ℕ
previous [] = None
previous (last ∷ []) = Some last
previous (last ∷ before ∷ older) = Some before

-- the last receipt
abbrev pub last_receipt : List Happening → Option ℕ
last_receipt happenings = newest (reverse (receipts happenings))

-- the receipt from which the holding time is measured: the one before the last, or the only one
abbrev pub measured_from : List Happening → Option ℕ
measured_from happenings = previous (reverse (receipts happenings))
