-- How late a station may take a turn, and when a moment is past.
use Rattle.std.specs.Prelude.{ℕ, ◌+◌, nat_lt, Bool, false, Option, Some, None}

-- the last moment of a turn, 2^61
abbrev pub last_turn : ℕ
last_turn = 2305843009213693952

-- the end of the longest telegram, of 255 octets, that is sent at that moment
abbrev pub last_end : ℕ
last_end = 2305843009213696757

-- a moment is more than a lag ago; none never is
abbrev pub is_past : ℕ → ℕ → Option ℕ → Bool
is_past lag now None = false
is_past lag now (Some moment) = nat_lt (moment + lag) now
