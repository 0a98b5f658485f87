-- A set of addresses as the bits of a number: an address is in the set if its bit is 1.
use Rattle.std.specs.Prelude.{◌≡◌, ℕ, ◌+◌, ◌<◌, ◌==◌, ◌^◌, Bool, List, [], ◌∷◌, filter}
use Rattle.std.specs.Int.{bit_at}
use Rattle.pb_ring.specs.AddressSets.{addresses}

-- the set that the bits of a number list
abbrev pub listed : ℕ → List ℕ
listed n = filter (λ a. bit_at n a == 1) addresses

-- the number whose bits list a set
abbrev pub bits_of : List ℕ → ℕ
bits_of [] = 0
bits_of (x ∷ xs) = 2 ^ x + bits_of xs

-- the bit of each address is 1 exactly if the address passes a test
abbrev pub IsSetOf : (ℕ → Bool) → ℕ → Type 0
IsSetOf test n = (a : ℕ) → a < 127 → (bit_at n a == 1) ≡ test a
