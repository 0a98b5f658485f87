-- Octets as two hex digits each.
use Rattle.std.proofs.Common.{◌≡◌, ℕ, ◌*◌, ◌/◌, ◌%◌, ◌≤◌, List, [], ◌∷◌, ◌++◌, length, take, drop, slice_index, refl, sym, ap, ◌∙◌, arith}
use Rattle.std.proofs.lemmas.List.{append-nil, drop_all}
use Rattle.hex.specs.Hex.{encode_lower, encode_with, lower_digits}

one_octet : (octet : ℕ) → encode_lower (octet ∷ []) ≡ slice_index lower_digits (octet / 16) ∷ slice_index lower_digits (octet % 16) ∷ []
unfolding encode_with
one_octet octet = refl

two : (xs : List ℕ) → length xs ≡ 2 → xs ≡ slice_index xs 0 ∷ slice_index xs 1 ∷ []
two [] len = absurd cc
two (x ∷ []) len = absurd (omega (arith, len))
two (x ∷ y ∷ []) len = refl
two (x ∷ y ∷ z ∷ rest) len = absurd (omega (arith, len))

-- the two digits of an octet
pub digits_are : (xs : List ℕ) (octet : ℕ) → length xs ≡ 2 → slice_index xs 0 ≡ slice_index lower_digits (octet / 16)
    → slice_index xs 1 ≡ slice_index lower_digits (octet % 16) → xs ≡ encode_lower (octet ∷ [])
digits_are xs octet len high low =
    two xs len ∙ ap (λ (a : ℕ). a ∷ slice_index xs 1 ∷ []) high
    ∙ ap (λ (b : ℕ). slice_index lower_digits (octet / 16) ∷ b ∷ []) low ∙ sym (one_octet octet)

-- all octets are written
pub all_written : (input output : List ℕ) (i : ℕ) → length input ≤ i
    → take (2 * i) output ++ encode_lower (drop i input) ≡ encode_lower input
    → take (2 * i) output ≡ encode_lower input
unfolding encode_with
all_written input output i h inv =
    let d = drop_all i input h in
    rw (d, append-nil) at inv
