-- The octets of characters that came good.
use Rattle.std.proofs.Common.{◌≡◌, ℕ, List, [], ◌∷◌, map, refl, ap}
use Rattle.pb_telegram.specs.Faults.{octets}
use Rattle.pb_telegram.specs.declared.chars.RxChar.TheVariants.{Good}

pub octets_of_good : (xs : List ℕ) → octets (map Good xs) ≡ xs
octets_of_good [] = refl
octets_of_good (x ∷ xs) = ap (λ (ys : List ℕ). x ∷ ys) (octets_of_good xs)
