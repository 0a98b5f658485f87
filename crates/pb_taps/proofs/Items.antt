-- One item of a list.
use Rattle.std.proofs.Common.{◌≡◌, ◌∙◌, ap, sym, ℕ, ◌<◌, ◌+◌, ◌++◌, List, [], ◌∷◌, length, map, Some, ◌⊎◌, inl, inr, subst, arith}
use Rattle.std.specs.Prelude.{slice_get, slice_index_or, take, Result, Ok, Err, OnErr, Option, None, MatchOption}
use Rattle.std.proofs.lemmas.Option.{slice_get-get_or, slice_get-map, get_or_from_slice_get, same_Some}
use Rattle.std.proofs.Math.Nat.{eq-or-lt_of_le}
use Rattle.std.proofs.lemmas.List.{length-map, take_more}
use Rattle.std.specs.Option.{option_map}
pub use Rattle.pb_station.proofs.Places.{left-at}

-- an item of a list, seen through a function
pub item-at : {X Y : Type 0} (f : X → Y) (xs : List X) (i : ℕ) (x : X) → i < length xs → x ≡ slice_index_or xs i x → slice_get (map f xs) i ≡ Some (f x)
item-at f xs i x there is = slice_get-map f xs i ∙ ap (option_map f) (slice_get-get_or xs i x there) ∙ ap (λ y. Some (f y)) (sym is)

-- what holds anyway holds at an error
pub at-err : {X F : Type 0} {P : Type 0} (r : Result X F) → P → OnErr r P
at-err (Ok x) p = tt
at-err (Err f) p = p

-- an item is the same, whatever it were if it weren't there
pub any-default : {X : Type 0} (xs : List X) (i : ℕ) (d x : X) → i < length xs → slice_index_or xs i d ≡ slice_index_or xs i x
any-default xs i d x there = same_Some (slice_index_or xs i d) (slice_index_or xs i x) (sym (slice_get-get_or xs i d there) ∙ slice_get-get_or xs i x there)

-- what holds of the first items holds of one more
pub below-more : {X : Type 0} (P : X → Type 0) (xs : List X) (i : ℕ) (x : X) → i < length xs → x ≡ slice_index_or xs i x → P x
    → ((k : ℕ) (d : X) → k < i → P (slice_index_or xs k d)) → (k : ℕ) (d : X) → k < i + 1 → P (slice_index_or xs k d)
below-more P xs i x there is new before k d below = by_place (eq-or-lt_of_le {n = k} {m = i} (omega (arith, below)))
  where
    by_place : (k ≡ i) ⊎ (k < i) → P (slice_index_or xs k d)
    by_place (inl at) = subst (λ n. P (slice_index_or xs n d)) (sym at) (subst P (is ∙ any-default xs i x d there) new)
    by_place (inr less) = before k d less

-- what is said of an item that is found, or of none, said otherwise
pub if-found : {X : Type 0} (A B : Type 0) (P Q : X → Type 0) (o : Option X) → (A → B) → ((x : X) → P x → Q x) → MatchOption o A P → MatchOption o B Q
if-found A B P Q None none some m = none m
if-found A B P Q (Some x) none some m = some x m

-- an item of a list
pub found-at : {X : Type 0} (xs : List X) (i : ℕ) (x : X) → i < length xs → x ≡ slice_index_or xs i x → slice_get xs i ≡ Some x
found-at xs i x there is = slice_get-get_or xs i x there ∙ ap (λ y. Some y) (sym is)

-- lists that look alike are as long
pub as-many : {X Y : Type 0} (f : X → Y) (xs ys : List X) → map f xs ≡ map f ys → length xs ≡ length ys
as-many f xs ys same = sym (length-map xs f) ∙ ap length same ∙ length-map ys f

-- what has been passed with it
pub passed-at : {X Y : Type 0} (f : X → Y) (xs : List X) (i : ℕ) (x : X) → i < length xs → x ≡ slice_index_or xs i x
    → take (i + 1) (map f xs) ≡ take i (map f xs) ++ f x ∷ []
passed-at f xs i x there is =
    take_more (map f xs) i (f x) (subst (λ n. i < n) (sym (length-map xs f)) there)
    ∙ ap (λ y. take i (map f xs) ++ y ∷ []) (get_or_from_slice_get (map f xs) i (f x) (f x) (item-at f xs i x there is))
