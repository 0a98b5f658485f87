-- The first entry that passes a test.
use Rattle.std.proofs.Common.{◌≡◌, ◌∙◌, ap, sym, refl, ℕ, suc, ◌+◌, ◌-◌, ◌<◌, ◌≤◌, nat_lt, not, ◌||◌, ◌++◌, List, [], ◌∷◌, length, Bool, true, false, if◌then◌else◌, cond, None, Some, append_assoc, subst, arith}
use Rattle.std.specs.Prelude.{is_some, find, take, drop, get_or, slice_index_or, slice_set, map}
use Rattle.std.proofs.Math.ListN.{set}
use Rattle.std.specs.List.{list_any, position, position_or_len}
use Rattle.std.proofs.Math.Seq.{take-add}
use Rattle.std.proofs.Math.ListN.{get_or-map}
use Rattle.std.proofs.lemmas.Bool.{ltb-true, ltb-false, lt-ltb, le-ltb}
use Rattle.std.proofs.lemmas.Option.{none-some, same_Some}
use Rattle.std.proofs.lemmas.List.{map-set, take_more_set, drop-set-lt, drop-drop, get_or-drop, take-append-drop, length-drop, length-map}
use Rattle.pb_taps.proofs.Items.{left-at}
use Rattle.law_model.specs.Trace.{Entry}
use Rattle.law_model.specs.Step.{change_first}
use Rattle.pb_medium.specs.Damaging.{IsFirstPlace}

-- none of the first entries passes the test
pub record PassesNone (test : Entry → Bool) (xs : List Entry) (i : ℕ) : Type 0 where
  pub found : find test xs ≡ find test (drop i xs)
  pub changed : (change : Entry → Entry) → change_first test change xs ≡ take i xs ++ change_first test change (drop i xs)

pub none-more : (test : Entry → Bool) (e : Entry) (xs : List Entry) (i : ℕ) → PassesNone test xs i → drop i xs ≡ e ∷ drop (i + 1) xs
    → take (i + 1) xs ≡ take i xs ++ e ∷ [] → test e ≡ false → PassesNone test xs (i + 1)
none-more test e xs i none left more fails = record {
  found = none.found ∙ ap (find test) left ∙ ap (λ (b : Bool). cond b (Some e) (find test (drop (i + 1) xs))) fails;
  changed = λ change.
      let rest = change_first test change (drop (i + 1) xs) in
      none.changed change
      ∙ ap (λ ys. take i xs ++ ys) (ap (change_first test change) left ∙ ap (λ (b : Bool). if b then change e ∷ drop (i + 1) xs else e ∷ rest) fails)
      ∙ sym (append_assoc (take i xs) (e ∷ []) rest) ∙ ap (λ ys. ys ++ rest) (sym more);
}

pub first-here : (test : Entry → Bool) (e : Entry) (xs : List Entry) (i : ℕ) → PassesNone test xs i → i < length xs → drop i xs ≡ e ∷ drop (i + 1) xs
    → test e ≡ true → IsFirstPlace test xs i
first-here test e xs i none there left passes = (
  e,
  there,
  left,
  none.found ∙ ap (find test) left ∙ ap (λ (b : Bool). cond b (Some e) (find test (drop (i + 1) xs))) passes,
  λ change. none.changed change
      ∙ ap (λ ys. take i xs ++ ys) (
      ap (change_first test change) left ∙ ap (λ (b : Bool). if b then change e ∷ drop (i + 1) xs else e ∷ change_first test change (drop (i + 1) xs)) passes),
)

-- what stands at the first place
pub first-found : {X : Type 0} (test : Entry → Bool) (f : X → Entry) (xs : List X) (i : ℕ) (x : X) → IsFirstPlace test (map f xs) i → i < length xs → x ≡ slice_index_or xs i x
    → (find test (map f xs) ≡ Some (f x))
    × ((change : Entry → Entry) → change_first test change (map f xs) ≡ take i (map f xs) ++ change (f x) ∷ drop (i + 1) (map f xs))
first-found test f xs i x (e, _, left, found, changed) there is =
    let same : e ≡ f x = ap (λ ys. get_or ys 0 e) (sym left ∙ left-at f xs i x there is) in (
      found ∙ ap (λ y. Some y) same,
      λ change. changed change ∙ ap (λ y. take i (map f xs) ++ change y ∷ drop (i + 1) (map f xs)) same,
    )

-- an item changed where it stands
pub set-at : {X Y : Type 0} (f : X → Y) (xs : List X) (i : ℕ) (x : X) → i < length xs → map f (slice_set xs i x) ≡ take i (map f xs) ++ f x ∷ drop (i + 1) (map f xs)
set-at f xs i x there =
    let ys = map f xs in
    let here : i < length ys = subst (λ n. i < n) (sym (length-map xs f)) there in
    map-set f xs i x ∙ sym (take-append-drop (i + 1) (set ys i (f x)))
    ∙ ap (λ zs. zs ++ drop (i + 1) (set ys i (f x))) (take_more_set ys i (f x) here)
    ∙ ap (λ zs. (take i ys ++ f x ∷ []) ++ zs) (drop-set-lt (i + 1) ys i (f x) (omega arith))
    ∙ append_assoc (take i ys) (f x ∷ []) (drop (i + 1) ys)

-- ---- the place that a search finds

pub place-at : (test : Entry → Bool) (b : Bool) (x : Entry) (xs : List Entry) → test x ≡ b → position_or_len test (x ∷ xs) ≡ (if b then 0 else suc (position_or_len test xs))
place-at test true x xs passes = ap (λ (b : Bool). cond (not b) (1 + position_or_len test xs) 0) passes
place-at test false x xs fails = ap (λ (b : Bool). cond (not b) (1 + position_or_len test xs) 0) fails ∙ omega arith

place-map : {X : Type 0} (test : Entry → Bool) (f : X → Entry) (xs : List X) → position_or_len test (map f xs) ≡ position_or_len (λ x. test (f x)) xs
place-map test f [] = refl
place-map test f (x ∷ xs) = ap (λ n. cond (not (test (f x))) (1 + n) 0) (place-map test f xs)

-- a search among items seen through a function
pub position-map : {X : Type 0} (test : Entry → Bool) (f : X → Entry) (xs : List X) → position test (map f xs) ≡ position (λ x. test (f x)) xs
position-map test f xs =
    ap (λ n. cond (nat_lt n (length (map f xs))) (Some n) None) (place-map test f xs)
    ∙ ap (λ n. cond (nat_lt (position_or_len (λ x. test (f x)) xs) n) (Some (position_or_len (λ x. test (f x)) xs)) None) (length-map xs f)

below-next : (m n : ℕ) (b : Bool) → nat_lt m n ≡ b → b ≡ nat_lt (suc m) (suc n)
below-next m n true e = sym (lt-ltb (suc m) (suc n) (omega (arith, ltb-true m n e)))
below-next m n false e = sym (le-ltb (suc m) (suc n) (omega (arith, ltb-false m n e)))

-- whether there is one that passes
pub any-placed : (test : Entry → Bool) (xs : List Entry) → list_any test xs ≡ nat_lt (position_or_len test xs) (length xs)
any-placed test [] = refl
any-placed test (x ∷ xs) = by (any-placed test xs) (test x) refl
  where
    by : list_any test xs ≡ nat_lt (position_or_len test xs) (length xs) → (b : Bool) → test x ≡ b
        → list_any test (x ∷ xs) ≡ nat_lt (position_or_len test (x ∷ xs)) (length (x ∷ xs))
    by rest true passes = ap (λ (b : Bool). b || list_any test xs) passes ∙ sym (lt-ltb 0 (suc (length xs)) (omega arith)) ∙ sym (ap (λ n. nat_lt n (suc (length xs))) (place-at test true x xs passes))
    by rest false fails = ap (λ (b : Bool). b || list_any test xs) fails ∙ rest ∙ below-next (position_or_len test xs) (length xs) (nat_lt (position_or_len test xs) (length xs)) refl
        ∙ sym (ap (λ n. nat_lt n (suc (length xs))) (place-at test false x xs fails))

cond-some : (b : Bool) (n : ℕ) → is_some (cond b (Some n) None) ≡ b
cond-some true n = refl
cond-some false n = refl

-- whether one passes the test, by the place of the first that does
pub some-placed : (test : Entry → Bool) (xs : List Entry) → is_some (position test xs) ≡ list_any test xs
some-placed test xs = cond-some (nat_lt (position_or_len test xs) (length xs)) (position_or_len test xs) ∙ sym (any-placed test xs)

-- what stands behind the first that passes, and that changed, behind all before it
abbrev changed_at : (Entry → Entry) → List Entry → Entry → ℕ → List Entry
changed_at change xs d n = take n xs ++ change (get_or xs n d) ∷ drop (suc n) xs

changed-where : (test : Entry → Bool) (change : Entry → Entry) (xs : List Entry) (d : Entry) → position_or_len test xs < length xs
    → change_first test change xs ≡ changed_at change xs d (position_or_len test xs)
changed-where test change [] d there = absurd (omega (arith, there))
changed-where test change (x ∷ xs) d there = by (changed-where test change xs d) (test x) refl
  where
    by : (position_or_len test xs < length xs → change_first test change xs ≡ changed_at change xs d (position_or_len test xs)) → (b : Bool) → test x ≡ b
        → change_first test change (x ∷ xs) ≡ changed_at change (x ∷ xs) d (position_or_len test (x ∷ xs))
    by rest true passes =
        ap (λ (b : Bool). if b then change x ∷ xs else x ∷ change_first test change xs) passes
        ∙ sym (ap (changed_at change (x ∷ xs) d) (place-at test true x xs passes))
    by rest false fails =
        ap (λ (b : Bool). if b then change x ∷ xs else x ∷ change_first test change xs) fails
        ∙ ap (λ ys. x ∷ ys) (rest (omega (arith, there, place-at test false x xs fails)))
        ∙ sym (ap (changed_at change (x ∷ xs) d) (place-at test false x xs fails))

-- a search that finds a place, or none
pub placed : (test : Entry → Bool) (xs : List Entry) (i : ℕ) → position test xs ≡ Some i → (i < length xs) × (list_any test xs ≡ true)
    × ((change : Entry → Entry) (d : Entry) → change_first test change xs ≡ take i xs ++ change (get_or xs i d) ∷ drop (i + 1) xs)
placed test xs i found = by (nat_lt (position_or_len test xs) (length xs)) refl found
  where
    by : (b : Bool) → nat_lt (position_or_len test xs) (length xs) ≡ b → cond b (Some (position_or_len test xs)) None ≡ Some i → (i < length xs) × (list_any test xs ≡ true)
        × ((change : Entry → Entry) (d : Entry) → change_first test change xs ≡ take i xs ++ change (get_or xs i d) ∷ drop (i + 1) xs)
    by true there is =
        let same : position_or_len test xs ≡ i = same_Some (position_or_len test xs) i is in
        let within = ltb-true (position_or_len test xs) (length xs) there in
        let next : suc i ≡ i + 1 = omega arith in (
          omega (arith, within, same),
          any-placed test xs ∙ there,
          λ change d. changed-where test change xs d within ∙ ap (changed_at change xs d) same
              ∙ ap (λ n. take i xs ++ change (get_or xs i d) ∷ drop n xs) next,
        )
    by false there is = absurd (none-some i is)

pub not-placed : (test : Entry → Bool) (xs : List Entry) → position test xs ≡ None → list_any test xs ≡ false
not-placed test xs none = by (nat_lt (position_or_len test xs) (length xs)) refl none
  where
    by : (b : Bool) → nat_lt (position_or_len test xs) (length xs) ≡ b → cond b (Some (position_or_len test xs)) None ≡ None → list_any test xs ≡ false
    by true there is = absurd (none-some (position_or_len test xs) (sym is))
    by false there is = any-placed test xs ∙ there

-- an item behind some others, changed where a search among the rest found it
pub set-behind : {X : Type 0} (f : X → Entry) (test : Entry → Bool) (change : Entry → Entry) (xs : List X) (over i : ℕ) (y d : X) → position test (drop over (map f xs)) ≡ Some i
    → over ≤ length xs → f y ≡ change (f (get_or xs (over + i) d)) → map f (set xs (over + i) y) ≡ take over (map f xs) ++ change_first test change (drop over (map f xs))
set-behind f test change xs over i y d found some is =
    let ys = map f xs in
    let rest = drop over ys in
    let here = placed test rest i found in
    let long : length rest ≡ length xs - over = length-drop over ys ∙ ap (λ n. n - over) (length-map xs f) in
    let within : over + i < length xs = omega (arith, here.0, long, some) in
    let same : get_or rest i (f d) ≡ f (get_or xs (over + i) d) = get_or-drop over ys i (f d) ∙ get_or-map f xs (over + i) d in
    set-at f xs (over + i) y within
    ∙ ap (λ zs. zs ++ f y ∷ drop (over + i + 1) ys) (take-add over i ys)
    ∙ append_assoc (take over ys) (take i rest) (f y ∷ drop (over + i + 1) ys)
    ∙ ap (λ e. take over ys ++ (take i rest ++ e ∷ drop (over + i + 1) ys)) (is ∙ ap change (sym same))
    ∙ ap (λ zs. take over ys ++ (take i rest ++ change (get_or rest i (f d)) ∷ zs)) (let sum : over + i + 1 ≡ over + (i + 1) = omega arith in ap (λ n. drop n ys) sum ∙ sym (drop-drop (i + 1) over ys))
    ∙ sym (ap (λ zs. take over ys ++ zs) (here.2 change (f d)))
