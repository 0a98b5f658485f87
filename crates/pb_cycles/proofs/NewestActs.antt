-- What a list is with one more element at its end.
use Rattle.std.proofs.Common.{◌≡◌, ◌∙◌, subst, ap, ℕ, ◌+◌, ◌-◌, ◌≤◌, Bool, true, false, not, cond, List, [], ◌∷◌, ◌++◌, length, drop, reverse, arith, count_by, length-append, drop_of_length-le}
use Rattle.std.specs.List.{after_last, suffix_len, prefix_len}
use Rattle.std.proofs.lemmas.List.{reverse-append, drop-append-le, length-reverse}
use Rattle.std.proofs.lemmas.List.Sums.{prefix_len-le-length}
use Rattle.std.proofs.lemmas.List.Sums.{sum_by-append}

pub reverse-more : {X : Type 0} (xs : List X) (x : X) → reverse (xs ++ x ∷ []) ≡ x ∷ reverse xs
reverse-more xs x = reverse-append xs (x ∷ [])

suffix_len-more : {X : Type 0} (p : X → Bool) (xs : List X) (x : X) → suffix_len p (xs ++ x ∷ []) ≡ cond (p x) (1 + suffix_len p xs) 0
suffix_len-more p xs x = ap (prefix_len p) (reverse-more xs x)

suffix_len-bound : {X : Type 0} (p : X → Bool) (xs : List X) → suffix_len p xs ≤ length xs
suffix_len-bound p xs = subst (λ n. suffix_len p xs ≤ n) (length-reverse xs) (prefix_len-le-length p (reverse xs))

-- an element that doesn't pass comes behind
pub after_last-more : {X : Type 0} (p : X → Bool) (xs : List X) (x : X) → p x ≡ false → after_last p (xs ++ x ∷ []) ≡ after_last p xs ++ x ∷ []
after_last-more p xs x e =
    let s : suffix_len (λ y. not (p y)) (xs ++ x ∷ []) ≡ 1 + suffix_len (λ y. not (p y)) xs
    = subst (λ b. suffix_len (λ y. not (p y)) (xs ++ x ∷ []) ≡ cond (not b) (1 + suffix_len (λ y. not (p y)) xs) 0) e (suffix_len-more (λ y. not (p y)) xs x) in
    let b : suffix_len (λ y. not (p y)) xs ≤ length xs = suffix_len-bound (λ y. not (p y)) xs in
    let l : length (xs ++ x ∷ []) ≡ length xs + 1 = length-append xs (x ∷ []) in
    let n : length (xs ++ x ∷ []) - suffix_len (λ y. not (p y)) (xs ++ x ∷ []) ≡ length xs - suffix_len (λ y. not (p y)) xs = omega arith in
    ap (λ (k : ℕ). drop k (xs ++ x ∷ [])) n ∙ drop-append-le _ xs (x ∷ []) (omega arith)

-- behind one that passes there is nothing
pub after_last-ends : {X : Type 0} (p : X → Bool) (xs : List X) (x : X) → p x ≡ true → after_last p (xs ++ x ∷ []) ≡ []
after_last-ends p xs x e =
    let s : suffix_len (λ y. not (p y)) (xs ++ x ∷ []) ≡ 0
    = subst (λ b. suffix_len (λ y. not (p y)) (xs ++ x ∷ []) ≡ cond (not b) (1 + suffix_len (λ y. not (p y)) xs) 0) e (suffix_len-more (λ y. not (p y)) xs x) in
    drop_of_length-le (xs ++ x ∷ []) (omega arith)

pub count_by-more : {X : Type 0} (p : X → Bool) (xs : List X) (x : X) → count_by p (xs ++ x ∷ []) ≡ count_by p xs + cond (p x) 1 0
count_by-more p xs x =
    let one : count_by p (x ∷ []) ≡ cond (p x) 1 0 = omega arith in
    sum_by-append (λ y. cond (p y) 1 0) xs (x ∷ []) ∙ ap (λ (n : ℕ). count_by p xs + n) one
