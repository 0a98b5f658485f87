-- No more of a text than there is.
use Rattle.std.proofs.Common.{◌≡◌, ◌∙◌, ℕ, List, ap, arith, length}
use Rattle.std.specs.Prelude.{min, take}
use Rattle.std.proofs.lemmas.List.{take_min}

pub cut : (n : ℕ) (xs : List ℕ) → take (min (length xs) n) xs ≡ take n xs
cut n xs =
    let same : min (length xs) n ≡ min n (length xs) = omega arith in
    ap (λ (k : ℕ). take k xs) same ∙ take_min n xs
