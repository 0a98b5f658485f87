-- How late something on the bus can end.
use Rattle.std.specs.Prelude.{ℕ, ◌+◌, ◌≤◌, List, [], ◌∷◌}
use Rattle.law_model.specs.Trace.{Entry, entry_end}
use Rattle.law_model.specs.World.{Event, Noise, clock_limit}

-- the longest time that an event can give, in bit times
abbrev pub longest : ℕ
longest = 4294967295

-- the last moment at which something can end that begins before the clock stops
abbrev pub last_end : ℕ
last_end = clock_limit + longest

-- no entry ends later than a moment
abbrev pub AllBy : ℕ → List Entry → Type 0
AllBy m [] = Unit {0}
AllBy m (e ∷ es) = (entry_end e ≤ m) × AllBy m es

-- noise lasts no longer than an event can give
abbrev pub IsShort : Event → Type 0
IsShort (Noise bits) = bits ≤ longest
IsShort other = Unit {0}
