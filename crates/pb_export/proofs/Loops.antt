-- A text that grows by a piece in each turn of a loop.
use Rattle.std.proofs.Common.{◌≡◌, ◌∙◌, ap, sym, arith, ℕ, suc, ◌+◌, ◌-◌, ◌<◌, ◌≤◌, List, [], ◌∷◌, ◌++◌, length, Some, append_assoc}
use Rattle.std.specs.Prelude.{slice_get, drop}
use Rattle.std.proofs.lemmas.List.{append-nil, drop_all}
use Rattle.pb_texts.proofs.Taps.{dropped}

-- ---- over the items of a list

-- one item more
pub item-step : {X : Type 0} (F : ℕ → List X → List ℕ) (g : ℕ → X → List ℕ) (xs : List X) (i : ℕ) (x : X) (text after all : List ℕ)
    → ((k : ℕ) (y : X) (ys : List X) → F k (y ∷ ys) ≡ g k y ++ F (k + 1) ys) → slice_get xs i ≡ Some x → after ≡ text ++ g i x
    → text ++ F i (drop i xs) ≡ all → after ++ F (i + 1) (drop (i + 1) xs) ≡ all
item-step F g xs i x text after all by here is so_far =
    let rest = F (i + 1) (drop (i + 1) xs) in
    ap (λ z. z ++ rest) is ∙ append_assoc text (g i x) rest ∙ ap (λ z. text ++ z) (sym (ap (F i) (dropped xs i x here) ∙ by i x (drop (i + 1) xs))) ∙ so_far

-- no item is left
pub item-end : {X : Type 0} (F : ℕ → List X → List ℕ) (xs : List X) (i : ℕ) (text all : List ℕ)
    → ((k : ℕ) → F k [] ≡ []) → length xs ≤ i → text ++ F i (drop i xs) ≡ all → text ≡ all
item-end F xs i text all by past so_far = sym (append-nil text) ∙ ap (λ z. text ++ z) (sym (ap (F i) (drop_all i xs past) ∙ by i)) ∙ so_far

-- ---- over numbers

-- one number more
pub count-step : (F : ℕ → ℕ → List ℕ) (g : ℕ → List ℕ) (i end : ℕ) (text after all : List ℕ)
    → ((k n : ℕ) → F k (suc n) ≡ g k ++ F (k + 1) n) → i < end → after ≡ text ++ g i
    → text ++ F i (end - i) ≡ all → after ++ F (i + 1) (end - (i + 1)) ≡ all
count-step F g i end text after all by less is so_far =
    let left = end - (i + 1) in
    let rest = F (i + 1) left in
    let one : end - i ≡ suc left = omega (arith, less) in
    ap (λ z. z ++ rest) is ∙ append_assoc text (g i) rest ∙ ap (λ z. text ++ z) (sym (ap (F i) one ∙ by i left)) ∙ so_far

-- ---- over the items of two lists

pub pair-step : {X Y : Type 0} (F : ℕ → List X → List Y → List ℕ) (g : ℕ → X → Y → List ℕ) (xs : List X) (ys : List Y) (i : ℕ) (x : X) (y : Y) (text after all : List ℕ)
    → ((k : ℕ) (a : X) (more : List X) (b : Y) (others : List Y) → F k (a ∷ more) (b ∷ others) ≡ g k a b ++ F (k + 1) more others)
    → slice_get xs i ≡ Some x → slice_get ys i ≡ Some y → after ≡ text ++ g i x y
    → text ++ F i (drop i xs) (drop i ys) ≡ all → after ++ F (i + 1) (drop (i + 1) xs) (drop (i + 1) ys) ≡ all
pair-step F g xs ys i x y text after all by here there is so_far =
    let rest = F (i + 1) (drop (i + 1) xs) (drop (i + 1) ys) in
    let step : F i (drop i xs) (drop i ys) ≡ g i x y ++ rest =
    ap (λ zs. F i zs (drop i ys)) (dropped xs i x here) ∙ ap (λ zs. F i (x ∷ drop (i + 1) xs) zs) (dropped ys i y there) ∙ by i x (drop (i + 1) xs) y (drop (i + 1) ys) in
    ap (λ z. z ++ rest) is ∙ append_assoc text (g i x y) rest ∙ ap (λ z. text ++ z) (sym step) ∙ so_far
