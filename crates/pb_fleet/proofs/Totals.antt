-- Sums over views of which one changes, and how often numbers stand in lists.
use Rattle.std.proofs.Common.{◌≡◌, ℕ, zero, suc, ◌+◌, ◌<◌, ◌≤◌, List, [], ◌∷◌, ◌++◌, refl, ap, sym, arith}
use Rattle.std.specs.Prelude.{slice_set, min}
use Rattle.std.proofs.lemmas.Bool.Decides.{nat_tests}
use mathlib.Core.Option.{some, some-injective, some-ne-none}
use lib.ListN.{get_elem?}
use Rattle.pb_fleet.specs.declared.rules.View.{View}
use Rattle.pb_fleet.specs.Rules.{once_below, times, total, weight}

-- ---- sums

pub total_set : (f : View → ℕ) (vs : List View) (i : ℕ) (v w : View) → get_elem? vs i ≡ some v → total f (slice_set vs i w) + f v ≡ total f vs + f w
total_set f [] i v w at = absurd (some-ne-none v (sym at))
total_set f (x ∷ vs) zero v w at = let same : f x ≡ f v = ap f (some-injective x v at) in omega (arith, same)
total_set f (x ∷ vs) (suc i) v w at = let rest = total_set f vs i v w at in omega (arith, rest)

pub total_snoc : (f : View → ℕ) (vs : List View) (w : View) → total f (vs ++ w ∷ []) ≡ total f vs + f w
total_snoc f [] w = omega arith
total_snoc f (x ∷ vs) w = let rest = total_snoc f vs w in omega (arith, rest)

pub one_of_total : (f : View → ℕ) (vs : List View) (i : ℕ) (v : View) → get_elem? vs i ≡ some v → f v ≤ total f vs
one_of_total f [] i v at = absurd (some-ne-none v (sym at))
one_of_total f (x ∷ vs) zero v at = let same : f x ≡ f v = ap f (some-injective x v at) in omega (arith, same)
one_of_total f (x ∷ vs) (suc i) v at = let rest = one_of_total f vs i v at in omega (arith, rest)

pub used_within : (vs : List View) → total (λ (v : View). v.used) vs ≤ total weight vs
used_within [] = omega arith
used_within (x ∷ vs) = let rest = used_within vs in omega (arith, rest)

-- where nothing weighs, nothing counts that only what weighs has
pub none_counts : (f : View → ℕ) (vs : List View) → total weight vs ≡ 0 → ((i : ℕ) (v : View) → get_elem? vs i ≡ some v → weight v ≡ 0 → f v ≡ 0) → total f vs ≡ 0
none_counts f [] zero-all only = refl
none_counts f (x ∷ vs) zero-all only =
    let here : weight x ≡ 0 = omega (arith, zero-all) in
    let there : total weight vs ≡ 0 = omega (arith, zero-all) in
    let first : f x ≡ 0 = only 0 x refl here in
    let rest = none_counts f vs there (λ i v at. only (suc i) v at) in
    omega (arith, first, rest)

-- ---- numbers in lists

pub times_append : (x : ℕ) (xs ys : List ℕ) → times x (xs ++ ys) ≡ times x xs + times x ys
times_append x [] ys = omega arith
times_append x (y ∷ xs) ys = let rest = times_append x xs ys in omega (arith, rest)

one_more : (x n : ℕ) → once_below x (n + 1) ≡ once_below x n + times x (n ∷ [])
one_more x n = grind (arith, nat_tests)

pub next_drawn : (x n : ℕ) (xs : List ℕ) (limit : ℕ) → n < limit
    → times x (xs ++ n ∷ []) + once_below x (min n limit) ≡ times x xs + once_below x (min (n + 1) limit)
next_drawn x n xs limit small =
    let now : min n limit ≡ n = omega arith in
    let next : min (n + 1) limit ≡ n + 1 = omega arith in
    rw (now, next) (let more = times_append x xs (n ∷ []) in let one = one_more x n in omega (arith, more, one))

pub none_drawn : (x n limit : ℕ) → limit ≤ n → once_below x (min (n + 1) limit) ≡ once_below x (min n limit)
none_drawn x n limit over = ap (λ (m : ℕ). once_below x m) (let same : min (n + 1) limit ≡ min n limit = omega arith in same)
