-- A list from a place on.
use Rattle.std.proofs.Common.{◌≡◌, ◌∙◌, ap, sym, ℕ, ◌<◌, ◌+◌, List, ◌∷◌, length, map}
use Rattle.std.specs.Prelude.{drop, slice_index_or}
use Rattle.std.proofs.lemmas.List.{at_drop_more, drop-map}

pub left-at : {X Y : Type 0} (f : X → Y) (xs : List X) (i : ℕ) (x : X) → i < length xs → x ≡ slice_index_or xs i x
    → drop i (map f xs) ≡ f x ∷ drop (i + 1) (map f xs)
left-at f xs i x there is =
    drop-map f i xs ∙ at_drop_more (λ ys. map f ys) xs i x there ∙ ap (λ y. f y ∷ map f (drop (i + 1) xs)) (sym is)
    ∙ ap (λ ys. f x ∷ ys) (sym (drop-map f (i + 1) xs))
