-- Lists that are compared place by place.
use Rattle.std.proofs.Common.{◌≡◌, ◌∙◌, ap, sym, refl, arith, ℕ, zero, suc, ◌+◌, List, [], ◌∷◌, drop, Bool, true, false, Some}
use Rattle.std.specs.Prelude.{slice_get, ◌&&◌}
use Rattle.std.specs.Cmp.Lexicographic.{pointwise}
use Rattle.std.proofs.lemmas.Option.{none-some, same_Some}

pub left : {X : Type 0} (xs : List X) (i : ℕ) (x : X) → slice_get xs i ≡ Some x → drop i xs ≡ x ∷ drop (suc i) xs
left [] i x at = absurd (none-some x at)
left (y ∷ xs) zero x at = ap (λ z. z ∷ xs) (same_Some y x at)
left (y ∷ xs) (suc i) x at = left xs i x at

-- at a place of both, the items there and what is behind them decide
pub one-more : {X : Type 0} (E : X → X → Bool) (xs ys : List X) (i : ℕ) (x y : X) → slice_get xs i ≡ Some x → slice_get ys i ≡ Some y
    → pointwise E (drop i xs) (drop i ys) ≡ (E x y && pointwise E (drop (i + 1) xs) (drop (i + 1) ys))
one-more E xs ys i x y at there =
    let next : suc i ≡ i + 1 = omega arith in
    ap (λ l. pointwise E l (drop i ys)) (left xs i x at)
    ∙ ap (λ l. pointwise E (x ∷ drop (suc i) xs) l) (left ys i y there)
    ∙ ap (λ n. E x y && pointwise E (drop n xs) (drop n ys)) next
