-- A list that is a head, a unit, and two numbers behind it.
use Rattle.std.proofs.Common.{◌≡◌, ℕ, ◌+◌, ◌≤◌, List, [], ◌∷◌, ◌++◌, length, take, drop, refl, ap, sym, ◌∙◌, arith}
use Rattle.std.specs.Prelude.{slice_index, slice_range}
use Rattle.std.proofs.Math.Seq.{take-append_seam}
use Rattle.std.proofs.lemmas.Grind.{elements, common_steps}

-- the list of its parts
pub frame_parts : (i j : ℕ) (xs : List ℕ) → i ≤ j → length xs ≡ j + 2
    → drop i xs ≡ slice_range xs i j ++ slice_index xs j ∷ slice_index xs (j + 1) ∷ []
frame_parts i j xs order whole = grind (arith, elements)

pub four_first : (xs : List ℕ) → 4 ≤ length xs
    → xs ≡ slice_index xs 0 ∷ slice_index xs 1 ∷ slice_index xs 2 ∷ slice_index xs 3 ∷ drop 4 xs
four_first (a ∷ b ∷ c ∷ d ∷ xs) h = refl
four_first xs h = absurd (omega arith)

pub seven_first : (xs : List ℕ) → 7 ≤ length xs
    → xs ≡ slice_index xs 0 ∷ slice_index xs 1 ∷ slice_index xs 2 ∷ slice_index xs 3 ∷ slice_index xs 4 ∷ slice_index xs 5 ∷ slice_index xs 6 ∷ drop 7 xs
seven_first (a ∷ b ∷ c ∷ d ∷ e ∷ f ∷ g ∷ xs) h = refl
seven_first xs h = absurd (omega arith)

-- the parts of a list that is made of them
pub frame_length : (head unit : List ℕ) (check last : ℕ) → length (head ++ (unit ++ check ∷ last ∷ [])) ≡ length head + length unit + 2
frame_length head unit check last = grind (arith, common_steps)

pub frame_unit : (head unit : List ℕ) (check last : ℕ)
    → slice_range (head ++ (unit ++ check ∷ last ∷ [])) (length head) (length head + length unit) ≡ unit
frame_unit head unit check last = grind (arith, elements)

pub frame_check : (head unit : List ℕ) (check last : ℕ) → slice_index (head ++ (unit ++ check ∷ last ∷ [])) (length head + length unit) ≡ check
frame_check head unit check last = grind (arith, elements)

pub frame_last : (head unit : List ℕ) (check last : ℕ) → slice_index (head ++ (unit ++ check ∷ last ∷ [])) (length head + length unit + 1) ≡ last
frame_last head unit check last = grind (arith, elements)

-- the front of a list is known by its length
pub same_front : (xs ys more others : List ℕ) → length xs ≡ length ys → xs ++ more ≡ ys ++ others → xs ≡ ys
same_front xs ys more others same e =
    sym (take-append_seam xs more) ∙ ap (take (length xs)) e ∙ ap (λ (n : ℕ). take n (ys ++ others)) same ∙ take-append_seam ys others
