-- A list in which a function is put in place of each element, from the front.
use Rattle.std.proofs.Common.{◌≡◌, ℕ, zero, suc, ◌+◌, ◌<◌, ◌≤◌, List, [], ◌∷◌, ◌++◌, length, map, get_or, set, take, drop, refl, ap, ◌∙◌, arith}

changed-suc : {X : Type 0} (f : X → X) (xs : List X) (i : ℕ) (x d : X) → i < length xs → x ≡ get_or (map f (take i xs) ++ drop i xs) i d
    → set (map f (take i xs) ++ drop i xs) i (f x) ≡ map f (take (suc i) xs) ++ drop (suc i) xs
changed-suc {X} f [] i x d within is = absurd (omega arith)
changed-suc {X} f (y ∷ ys) zero x d within is = ap (λ (z : X). f z ∷ ys) is
changed-suc {X} f (y ∷ ys) (suc i) x d within is = ap (λ (more : List X). f y ∷ more) (changed-suc f ys i x d (omega arith) is)

-- one more element is changed
pub changed-more : {X : Type 0} (f : X → X) (xs : List X) (i : ℕ) (x d : X) → i < length xs → x ≡ get_or (map f (take i xs) ++ drop i xs) i d
    → set (map f (take i xs) ++ drop i xs) i (f x) ≡ map f (take (i + 1) xs) ++ drop (i + 1) xs
changed-more {X} f xs i x d within is =
    changed-suc f xs i x d within is ∙ ap (λ (k : ℕ). map f (take k xs) ++ drop k xs) (let e : suc i ≡ i + 1 = omega arith in e)

-- in the end all are
pub changed-all : {X : Type 0} (f : X → X) (xs : List X) (i : ℕ) → length xs ≤ i → map f (take i xs) ++ drop i xs ≡ map f xs
changed-all {X} f [] zero over = refl
changed-all {X} f [] (suc i) over = refl
changed-all {X} f (x ∷ xs) zero over = absurd (omega arith)
changed-all {X} f (x ∷ xs) (suc i) over = ap (λ (more : List X). f x ∷ more) (changed-all f xs i (omega arith))
