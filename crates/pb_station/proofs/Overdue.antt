-- A turn is overdue where the first thing that it waits for is.
use Rattle.std.proofs.Common.{◌≡◌, refl, arith, ℕ, ◌+◌, ◌≤◌, ◌-◌, Bool, true, false, ◌||◌, Option, Some, None}
use Rattle.std.specs.Prelude.{nat_lt, min}
use Rattle.std.proofs.lemmas.Bool.{lt-ltb, le-ltb, ltb-true, ltb-false}
use Rattle.std.proofs.Math.Nat.{min-le_left, min-le_right, le-min}
use Rattle.law_turn.specs.Stations.{earlier}
use Rattle.pb_transitions.specs.Clocks.{is_past}

past-min : (lag to a b : ℕ) → nat_lt (min a b + lag) to ≡ (nat_lt (a + lag) to || nat_lt (b + lag) to)
past-min lag to a b = by-tests (nat_lt (a + lag) to) (nat_lt (b + lag) to) refl refl
  where
    least : (c : ℕ) → c ≤ a → c ≤ b → c ≤ min a b
    least c = le-min

    by-tests : (x y : Bool) → nat_lt (a + lag) to ≡ x → nat_lt (b + lag) to ≡ y → nat_lt (min a b + lag) to ≡ (x || y)
    by-tests true y one two = lt-ltb (min a b + lag) to (omega (arith, ltb-true (a + lag) to one, min-le_left a b))
    by-tests false true one two = lt-ltb (min a b + lag) to (omega (arith, ltb-true (b + lag) to two, min-le_right a b))
    by-tests false false one two =
        le-ltb (min a b + lag) to (neither (ltb-false (a + lag) to one) (ltb-false (b + lag) to two))
      where
        neither : to ≤ a + lag → to ≤ b + lag → to ≤ min a b + lag
        neither = λ first second. omega (arith, least (to - lag) (omega (arith, first)) (omega (arith, second)))

-- the earlier of two moments is past where one of them is
pub past-earlier : (lag to : ℕ) (a b : Option ℕ) → is_past lag to (earlier a b) ≡ (is_past lag to a || is_past lag to b)
past-earlier lag to None b = refl
past-earlier lag to (Some a) None = or-false (nat_lt (a + lag) to)
  where
    or-false : (x : Bool) → x ≡ (x || false)
    or-false true = refl
    or-false false = refl
past-earlier lag to (Some a) (Some b) = past-min lag to a b
