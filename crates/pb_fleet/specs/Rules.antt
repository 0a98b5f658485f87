-- The rule of tickets, and what its four steps do to what a seat knows: a draw, a split, a join and the close.
use Rattle.std.specs.Prelude.{◌≡◌, ℕ, ◌+◌, ◌-◌, ◌^◌, ◌<◌, ◌≤◌, ◌==◌, List, [], ◌∷◌, ◌++◌, length, slice_index, min, nat_lt, if◌then◌else◌}
use mathlib.Core.Option.{some}
use lib.ListN.{get_elem?}
use Rattle.atomic_table.specs.Table.{State, Me, Step}
use Rattle.pb_fleet.specs.declared.rules.Key.{Key}
use Rattle.pb_fleet.specs.declared.rules.View.{View}

abbrev pub view : ℕ → ℕ → ℕ → List ℕ → View
view limit parts used drawn = record { limit = limit; parts = parts; used = used; drawn = drawn }

-- ---- words

-- how many times a number is in a list
abbrev pub times : ℕ → List ℕ → ℕ
times x [] = 0
times x (y ∷ ys) = (if y == x then 1 else 0) + times x ys

-- once, if it is below another number, else never
abbrev pub once_below : ℕ → ℕ → ℕ
once_below x n = if nat_lt x n then 1 else 0

-- the sum of a value over all views
abbrev pub total : (View → ℕ) → List View → ℕ
total f [] = 0
total f (v ∷ vs) = f v + total f vs

-- the parts of a seat, used up or not
abbrev pub weight : View → ℕ
weight v = v.parts + v.used

-- ---- the rule

-- all views together have each number below the word and the limit once; the word is at most the limit and what is used
-- up
pub record IsGiven (k : Key) (s : State (Unit {0}) View) : Type 0 where
  pub one : length s.words ≡ 1
  pub shares : total weight s.views ≡ k.seats
  pub bound : slice_index s.words 0 ≤ k.limit + total (λ v. v.used) s.views
  pub each : (x : ℕ) → total (λ v. times x v.drawn) s.views ≡ once_below x (min (slice_index s.words 0) k.limit)
  pub idle : (i : ℕ) (v : View) → get_elem? s.views i ≡ some v → weight v ≡ 0 → v.drawn ≡ []
  pub limits : (i : ℕ) (v : View) → get_elem? s.views i ≡ some v → 0 < weight v → v.limit ≡ k.limit
  pub ended : (i : ℕ) (v : View) → get_elem? s.views i ≡ some v → 0 < v.used → k.limit ≤ slice_index s.words 0
  pub fits : k.limit + k.seats ≤ 2 ^ 63

-- ---- the steps

-- the first seat has all parts
abbrev pub newcomer_of : Key → View
newcomer_of k = view k.limit k.seats 0 []

-- a draw gets its number if that is below the limit; else one part is used up
abbrev pub after_draw : View → ℕ → View
after_draw v n = if nat_lt n v.limit then view v.limit v.parts v.used (v.drawn ++ n ∷ []) else view v.limit (v.parts - 1) (v.used + 1) v.drawn

abbrev pub Draws : Step (Unit {0}) → Me (Unit {0}) View → ℕ → Me (Unit {0}) View → Type 0
Draws s me n next = next ≡ (after_draw me.0 n, me.1)

-- a split gives one part away
abbrev pub cut : View → View
cut v = view v.limit (v.parts - 1) v.used v.drawn

-- a join adds what both have
abbrev pub both : View → View → View
both v w = view v.limit (v.parts + w.parts) (v.used + w.used) (v.drawn ++ w.drawn)
