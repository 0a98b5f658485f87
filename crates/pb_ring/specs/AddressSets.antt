-- Sets of station addresses, and the order of addresses around the logical ring. A set is the list of its addresses in
-- ascending order: equal sets are equal lists.
use Rattle.std.specs.Prelude.{ℕ, ◌+◌, ◌≤◌, ◌==◌, unwrap_or, nat_lt, nat_le, Bool, true, false, not, ◌&&◌, ◌||◌, if◌then◌else◌, List, [], ◌∷◌, ◌++◌, filter, Option, Some, None}
use Rattle.std.specs.List.{range_with_len}
use Rattle.std.specs.Option.{option_or}

-- the addresses that a station can have
unfoldable pub addresses : List ℕ
addresses = range_with_len 0 127

abbrev pub is_member : List ℕ → ℕ → Bool
is_member [] a = false
is_member (x ∷ xs) a = x == a || is_member xs a

-- the set with an address
abbrev pub with_address : ℕ → List ℕ → List ℕ
with_address a [] = a ∷ []
with_address a (x ∷ xs) = if nat_lt a x then a ∷ x ∷ xs else if a == x then x ∷ xs else x ∷ with_address a xs

-- the set without an address
abbrev pub without_address : ℕ → List ℕ → List ℕ
without_address a xs = filter (λ x. not (x == a)) xs

-- An address is strictly between two others in cyclic order. Between an address and itself are all others.
abbrev pub is_between : ℕ → ℕ → ℕ → Bool
is_between from to a = if nat_lt from to then nat_lt from a && nat_lt a to else nat_lt from a || nat_lt a to

-- whether an address is that of a station
abbrev pub is_own : Option ℕ → ℕ → Bool
is_own None a = false
is_own (Some ts) a = ts == a

-- a token removes an address from the list: those strictly between source and destination, except the own one of a
-- station in the ring
abbrev pub removes : Option ℕ → ℕ → ℕ → ℕ → Bool
removes own sa da a = is_between sa da a && not (is_own own a)

-- whether two lists are equal
abbrev pub is_same : List ℕ → List ℕ → Bool
is_same [] [] = true
is_same [] (y ∷ ys) = false
is_same (x ∷ xs) [] = false
is_same (x ∷ xs) (y ∷ ys) = x == y && is_same xs ys

abbrev pub first_of : List ℕ → Option ℕ
first_of [] = None
first_of (x ∷ xs) = Some x

abbrev pub last_of : List ℕ → Option ℕ
last_of [] = None
last_of (x ∷ xs) = option_or (last_of xs) (Some x)

-- a set in cyclic order: first those above an address, then, from the lowest on, the others
abbrev pub from_behind : ℕ → List ℕ → List ℕ
from_behind a xs = filter (λ x. nat_lt a x) xs ++ filter (λ x. nat_le x a) xs

-- the same order, with the address itself first instead of last
abbrev pub from_at : ℕ → List ℕ → List ℕ
from_at a xs = filter (λ x. nat_le a x) xs ++ filter (λ x. nat_lt x a) xs

-- the next of a set: the lowest above the address, else the lowest of all; a lone address is its own next one
abbrev pub next_address : ℕ → List ℕ → ℕ
next_address a xs = unwrap_or (first_of (from_behind a xs)) a

-- the previous of a set: the highest below the address, else the highest of all; a lone address is its own previous one
abbrev pub previous_address : ℕ → List ℕ → ℕ
previous_address a xs = unwrap_or (last_of (from_at a xs)) a

-- the addresses are in ascending order, none below a bound
abbrev pub AscendsFrom : ℕ → List ℕ → Type 0
AscendsFrom low [] = Unit {0}
AscendsFrom low (x ∷ xs) = (low ≤ x) × AscendsFrom (x + 1) xs

-- the list is a set: its addresses are in ascending order
abbrev pub IsAscending : List ℕ → Type 0
IsAscending xs = AscendsFrom 0 xs
