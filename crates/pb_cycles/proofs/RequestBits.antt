-- Bit 6 of the control octet of a request.
use Rattle.std.proofs.Common.{◌≡◌, sym, subst, refl, ℕ, ◌/◌, ◌≤◌, ◌<◌, arith}
use Rattle.std.specs.Int.{IsBitSet}
use Rattle.std.specs.Int.Bits.{bit_and}
use Rattle.std.proofs.lemmas.Nat.{bit_set_by_shift}

-- an octet from 64 to 127 has it
pub bit_set : (n : ℕ) → 64 ≤ n → n < 128 → IsBitSet n 6
bit_set n low high =
    let one : n / 64 ≡ 1 = omega (arith, low, high) in
    (bit_set_by_shift n 6).0 (subst (λ q. bit_and q 1 ≡ 1) (sym one) refl)
