-- Lists that are moved on at a moment, one element after another.
use Rattle.std.proofs.Common.{◌≡◌, ◌≢◌, ◌∙◌, ap, sym, subst, refl, arith, ℕ, zero, suc, ◌+◌, ◌<◌, ◌≤◌, List, [], ◌∷◌, ◌++◌, length, map, take, drop, append-nil, append_assoc, get_or, Some}
use Rattle.std.specs.Prelude.{Option, slice_get, slice_set}
use Rattle.std.specs.List.{flat_map}
use Rattle.std.proofs.lemmas.List.{take_more, take_more_set, drop_more, drop-drop, drop-set-lt, map-append}
use Rattle.std.proofs.lemmas.List.Concat.{flat_map-append}
use Rattle.std.proofs.lemmas.List.Elements.{filter-append}
use Rattle.law_turn.specs.Stations.{earlier}
use Rattle.law_runs.specs.Scenarios.{Deed, Planned}
use Rattle.pb_scenario.specs.declared.repeats.Repeat.{Repeat}
use Rattle.pb_scenario.specs.declared.rounds.Block.{Block}
use Rattle.pb_scenario.specs.Repeats.{all_of, happenings_from, repeat_in}
use Rattle.pb_scenario.specs.Rounds.{AreAllFrom, count_of, deeds_at, ones_at, others_than, soonest}
use Rattle.pb_scenario.proofs.Happenings.{from-back, from-front, soonest-append, earlier-assoc}

module _ {X : Type 0} (F : X → List Planned) where
  -- one more element
  flat-more : (xs : List X) (i : ℕ) (x : X) → i < length xs → x ≡ get_or xs i x → flat_map F (take (i + 1) xs) ≡ flat_map F (take i xs) ++ F x
  flat-more xs i x less is =
      ap (flat_map F) (take_more xs i x less) ∙ ap (λ y. flat_map F (take i xs ++ y ∷ [])) (sym is)
      ∙ flat_map-append F (take i xs) (x ∷ []) ∙ ap (λ l. flat_map F (take i xs) ++ l) (append-nil (F x))

  flat-set : (xs : List X) (i : ℕ) (y : X) → i < length xs → flat_map F (take (i + 1) (slice_set xs i y)) ≡ flat_map F (take i xs) ++ F y
  flat-set xs i y less =
      ap (flat_map F) (take_more_set xs i y less)
      ∙ flat_map-append F (take i xs) (y ∷ []) ∙ ap (λ l. flat_map F (take i xs) ++ l) (append-nil (F y))

  flat-cut : (xs : List X) (i : ℕ) (x : X) → i < length xs → x ≡ get_or xs i x → flat_map F xs ≡ flat_map F (take i xs) ++ (F x ++ flat_map F (drop (i + 1) xs))
  flat-cut xs i x less is = by xs i less is
    where
      by : (ys : List X) (j : ℕ) → j < length ys → x ≡ get_or ys j x → flat_map F ys ≡ flat_map F (take j ys) ++ (F x ++ flat_map F (drop (j + 1) ys))
      by [] j less is = absurd (omega (arith, less))
      by (y ∷ ys) zero less is = ap (λ z. F z ++ flat_map F ys) (sym is)
      by (y ∷ ys) (suc j) less is =
          let same : suc (j + 1) ≡ suc j + 1 = omega arith in
          ap (λ l. F y ++ l) (by ys j (omega (arith, less)) is) ∙ sym (append_assoc (F y) (flat_map F (take j ys)) (F x ++ flat_map F (drop (j + 1) ys)))
          ∙ ap (λ n. (F y ++ flat_map F (take j ys)) ++ (F x ++ flat_map F (drop n (y ∷ ys)))) same

  -- none of an element's is before a moment, where none of all is
  pub from-one : (at : ℕ) (xs : List X) (i : ℕ) (x : X) → i < length xs → x ≡ get_or xs i x → AreAllFrom at (flat_map F xs) → AreAllFrom at (F x)
  from-one at xs i x less is from =
      from-front at (F x) (flat_map F (drop (i + 1) xs))
      (from-back at (flat_map F (take i xs)) (F x ++ flat_map F (drop (i + 1) xs)) (subst (AreAllFrom at) (flat-cut xs i x less is) from))

  -- the element at an index is moved on; the elements up to it were
  pub moved-more : (at : ℕ) (xs ys : List X) (i : ℕ) (x y : X) → i < length xs → x ≡ get_or xs i x → i < length ys
      → flat_map F (take i ys) ≡ others_than at (flat_map F (take i xs)) → F y ≡ others_than at (F x)
      → flat_map F (take (i + 1) (slice_set ys i y)) ≡ others_than at (flat_map F (take (i + 1) xs))
  moved-more at xs ys i x y less is there before one =
      flat-set ys i y there ∙ ap (λ l. l ++ F y) before ∙ ap (λ l. others_than at (flat_map F (take i xs)) ++ l) one
      ∙ sym (filter-append _ (flat_map F (take i xs)) (F x)) ∙ ap (others_than at) (sym (flat-more xs i x less is))

  -- what the elements do at a moment, one more of them
  pub done-more : (at : ℕ) (xs : List X) (i : ℕ) (x : X) → i < length xs → x ≡ get_or xs i x
      → deeds_at at (flat_map F (take i xs)) ++ deeds_at at (F x) ≡ deeds_at at (flat_map F (take (i + 1) xs))
  done-more at xs i x less is =
      sym (map-append (λ (s : Planned). s.deed) (ones_at at (flat_map F (take i xs))) (ones_at at (F x)))
      ∙ ap (map (λ (s : Planned). s.deed)) (sym (filter-append _ (flat_map F (take i xs)) (F x)))
      ∙ ap (deeds_at at) (sym (flat-more xs i x less is))

  -- the first moment of the elements up to one, and of the rest
  pub soonest-more : (xs : List X) (i : ℕ) (x : X) → i < length xs → x ≡ get_or xs i x
      → soonest (flat_map F (drop i xs)) ≡ earlier (soonest (F x)) (soonest (flat_map F (drop (i + 1) xs)))
  soonest-more xs i x less is =
      ap (λ l. soonest (flat_map F l)) (drop_more xs i x less) ∙ ap (λ y. soonest (F y ++ flat_map F (drop (i + 1) xs))) (sym is)
      ∙ soonest-append (F x) (flat_map F (drop (i + 1) xs))

-- an element that is left as it was
pub there-too : {X : Type 0} (xs ys : List X) (i : ℕ) (x : X) → length ys ≡ length xs → drop i ys ≡ drop i xs → i < length ys → x ≡ get_or ys i x → x ≡ get_or xs i x
there-too xs ys i x count left there is =
    let same : get_or ys i x ∷ drop (i + 1) ys ≡ get_or xs i x ∷ drop (i + 1) xs =
    sym (drop_more ys i x there) ∙ left ∙ drop_more xs i x (omega (arith, there, count)) in
    let first : get_or ys i x ≡ get_or xs i x = cc in
    is ∙ first

-- and those behind it
pub left-more : {X : Type 0} (xs ys : List X) (i : ℕ) (y : X) → i < length ys → drop i ys ≡ drop i xs → drop (i + 1) (slice_set ys i y) ≡ drop (i + 1) xs
left-more xs ys i y there left =
    drop-set-lt (i + 1) ys i y (omega arith) ∙ sym (drop-drop 1 i ys) ∙ ap (drop 1) left ∙ drop-drop 1 i xs

-- ---- how many steps blocks have

pub count-set : (xs : List Block) (i : ℕ) (x y : Block) → i < length xs → x ≡ get_or xs i x → length y.rounds.items ≡ length x.rounds.items → count_of (slice_set xs i y) ≡ count_of xs
count-set [] i x y less is same = absurd (omega (arith, less))
count-set (b ∷ xs) zero x y less is same = let one : length y.rounds.items ≡ length b.rounds.items = same ∙ ap (λ (c : Block). length c.rounds.items) is in omega (arith, one)
count-set (b ∷ xs) (suc i) x y less is same = let more : count_of (slice_set xs i y) ≡ count_of xs = count-set xs i x y (omega (arith, less)) is same in omega (arith, more)

pub count-drop : (xs : List Block) (i : ℕ) (x : Block) → i < length xs → x ≡ get_or xs i x → count_of (drop i xs) ≡ length x.rounds.items + count_of (drop (i + 1) xs)
count-drop xs i x less is = ap count_of (drop_more xs i x less) ∙ ap (λ (b : Block). length b.rounds.items + count_of (drop (i + 1) xs)) (sym is)

pub count-push : (xs : List Block) (b : Block) → count_of (xs ++ b ∷ []) ≡ count_of xs + length b.rounds.items
count-push [] b = omega arith
count-push (x ∷ xs) b = let more : count_of (xs ++ b ∷ []) ≡ count_of xs + length b.rounds.items = count-push xs b in omega (arith, more)

-- ---- what steps do, some of them after others

pub happenings-append : (until : ℕ) (repeats : List (Option Repeat)) (place : ℕ) (xs ys : List Planned)
    → happenings_from until repeats place (xs ++ ys) ≡ happenings_from until repeats place xs ++ happenings_from until repeats (place + length xs) ys
happenings-append until repeats place [] ys = let same : place ≡ place + 0 = omega arith in ap (λ n. happenings_from until repeats n ys) same
happenings-append until repeats place (x ∷ xs) ys =
    let one = all_of until x (repeat_in (slice_get repeats place)) in
    let rest = happenings_from until repeats (place + 1) xs in
    let same : (place + 1) + length xs ≡ place + suc (length xs) = omega arith in
    ap (λ l. one ++ l) (happenings-append until repeats (place + 1) xs ys) ∙ sym (append_assoc one rest (happenings_from until repeats ((place + 1) + length xs) ys))
    ∙ ap (λ n. (one ++ rest) ++ happenings_from until repeats n ys) same
