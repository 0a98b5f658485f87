-- The GAP of a station, and the rounds in which it asks the addresses there.
use Rattle.std.specs.Prelude.{ℕ, ◌+◌, ◌*◌, nat_le, Bool, true, List, filter, Option, Some, None, unwrap_or}
use Rattle.std.specs.List.{range_with_len}
use Rattle.pb_ring.specs.declared.gaps.Round.{Round}
use Rattle.pb_ring.specs.declared.gaps.Round.TheVariants.{Open, Closed}
use Rattle.pb_ring.specs.AddressSets.{is_between, from_behind, first_of}

-- the GAP: the addresses up to the highest station address that are strictly between a station and its next one
abbrev pub gap_range : ℕ → ℕ → ℕ → List ℕ
gap_range ts ns hsa = filter (λ a. is_between ts ns a) (range_with_len 0 (hsa + 1))

-- A round is due while it is open, and some target rotation times after it was closed.
abbrev pub is_due : Round → ℕ → ℕ → ℕ → Bool
is_due (Open asked) now ttr gap = true
is_due (Closed at) now ttr gap = nat_le (at + gap * ttr) now

-- the last address that the round has asked; a closed round starts again
abbrev pub last_asked : Round → Option ℕ
last_asked (Open asked) = asked
last_asked (Closed at) = None

-- what is left of a round: the addresses of the GAP after the last one asked, in cyclic order from the own one
abbrev pub left_to_ask : ℕ → ℕ → ℕ → Option ℕ → List ℕ
left_to_ask ts ns hsa asked = filter (λ a. is_between (unwrap_or asked ts) ts a) (gap_range ts ns hsa)

-- the next address to ask, in cyclic order from the own one
abbrev pub next_asked : ℕ → ℕ → ℕ → Option ℕ → Option ℕ
next_asked ts ns hsa asked = first_of (from_behind ts (left_to_ask ts ns hsa asked))

-- a look that finds an address keeps the round open, one that finds none closes it
abbrev pub round_after : Option ℕ → ℕ → Round
round_after None now = Closed now
round_after (Some a) now = Open (Some a)
