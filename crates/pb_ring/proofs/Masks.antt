-- What the bits of a mask are, and of the lowest and the highest bit of a number.
use Rattle.std.proofs.Common.{Option, ◌≡◌, ℕ, ◌+◌, ◌-◌, ◌*◌, ◌%◌, ◌^◌, ◌<◌, ◌≤◌, Bool, true, false, ◌==◌, ◌&&◌, ◌||◌, ap, sym, ◌∙◌, arith, inl, inr, suc, bit_and, bit_or}
use Rattle.std.specs.Prelude.{filter, not, nat_le, nat_lt, min, max}
use Rattle.std.specs.Int.{bit_at}
use Rattle.std.specs.Int.Bits.{mask_lt}
use Rattle.std.proofs.Math.Nat.{div-eq_of_lt-le, pow-succ'}
use Rattle.std.proofs.Math.Pow.{pow-lt, pow_mono}
use Rattle.std.proofs.lemmas.Bool.{lt-ltb, le-leb, ltb-true, cases_Bool, eq-eqb, ne_eqb, cases_eq}
use Rattle.std.proofs.lemmas.Bool.Decides.{nat_tests}
use Rattle.std.proofs.lemmas.Nat.{one_shl}
use Rattle.std.proofs.lemmas.Nat.Bits.{bit_at_above, bit_at-zero, bit_at-lt, bit_at_and, bit_at_or, bit_at_not, bit_at_ones, bit_at_ones_above, bit_at-pow_same, bit_at-pow_other}
use mir.Syntax.{w128}
use Rattle.pb_ring.specs.AddressSets.{addresses, removes, is_between, is_own}
use Rattle.pb_ring.specs.Words.{listed, IsSetOf}
use Rattle.pb_ring.proofs.SetLemmas.{filter-addresses}

-- a bit as a test
bit-true : (n x : ℕ) → bit_at n x ≡ 1 → (bit_at n x == 1) ≡ true
bit-true n x e = eq-eqb (bit_at n x) 1 e

bit-false : (n x : ℕ) → bit_at n x ≡ 0 → (bit_at n x == 1) ≡ false
bit-false n x e = ap (λ (b : ℕ). b == 1) e

-- ---- the bits below a place

pub is_below : (p x : ℕ) → (bit_at (2 ^ p - 1) x == 1) ≡ nat_lt x p
is_below p x =
    elim (cases_Bool (nat_lt x p)) [
      | inl e ↦ bit-true (2 ^ p - 1) x (bit_at_ones p x (ltb-true x p e)) ∙ sym e
      | inr e ↦ bit-false (2 ^ p - 1) x (bit_at_ones_above p x (let late : p ≤ x = grind (arith, nat_tests) in late)) ∙ sym e
    ]

both : (m n x : ℕ) → (bit_at (bit_and m n) x == 1) ≡ ((bit_at m x == 1) && (bit_at n x == 1))
both m n x = ap (λ (b : ℕ). b == 1) (bit_at_and m n x) ∙ of_digits (bit_at m x) (bit_at n x) (bit_at-lt m x) (bit_at-lt n x)
  where
    of_digits : (p q : ℕ) → p < 2 → q < 2 → (min p q == 1) ≡ ((p == 1) && (q == 1))
    of_digits p q h k = grind (arith, nat_tests)

either : (m n x : ℕ) → (bit_at (bit_or m n) x == 1) ≡ ((bit_at m x == 1) || (bit_at n x == 1))
either m n x = ap (λ (b : ℕ). b == 1) (bit_at_or m n x) ∙ of_digits (bit_at m x) (bit_at n x) (bit_at-lt m x) (bit_at-lt n x)
  where
    of_digits : (p q : ℕ) → p < 2 → q < 2 → (max p q == 1) ≡ ((p == 1) || (q == 1))
    of_digits p q h k = grind (arith, nat_tests)

neither : (n x : ℕ) → n < 2 ^ 128 → x < 128 → (bit_at (2 ^ 128 - 1 - n) x == 1) ≡ not (bit_at n x == 1)
neither n x fits low = ap (λ (b : ℕ). b == 1) (bit_at_not w128 n x fits low) ∙ of_digit (bit_at n x) (bit_at-lt n x)
  where
    of_digit : (p : ℕ) → p < 2 → (1 - p == 1) ≡ not (p == 1)
    of_digit p h = grind (arith, nat_tests)

pub pow-fits : (p : ℕ) → p ≤ 127 → 2 ^ p - 1 < 2 ^ 128
pow-fits p le = omega (arith, pow-lt {i = p} {j = 128} (omega arith))

-- not below a place, at an address
from_place : (p x : ℕ) → p ≤ 127 → x < 128 → (bit_at (2 ^ 128 - 1 - (2 ^ p - 1)) x == 1) ≡ nat_le p x
from_place p x le low =
    neither (2 ^ p - 1) x (pow-fits p le) low ∙ ap not (is_below p x) ∙ (let at_least : not (nat_lt x p) ≡ nat_le p x = grind (arith, nat_tests) in at_least)

-- ---- a part of a set

pub part-within : (bits low high x : ℕ) → high ≤ 127
    → (bit_at (bit_and (bit_and bits (2 ^ min high 127 - 1)) (2 ^ 128 - 1 - (2 ^ min low 127 - 1))) x == 1) ≡ (bit_at bits x == 1 && (nat_le low x && nat_lt x high))
part-within bits low high x fits =
    both (bit_and bits (2 ^ min high 127 - 1)) (2 ^ 128 - 1 - (2 ^ min low 127 - 1)) x
    ∙ ap (λ (b : Bool). b && from) (both bits (2 ^ min high 127 - 1) x ∙ ap (λ (b : Bool). (bit_at bits x == 1) && b) (is_below (min high 127) x))
    ∙ (elim (cases_Bool (nat_lt x high)) [
      | inl e ↦ (let below : x < high = ltb-true x high e in
          ap (λ (b : Bool). ((bit_at bits x == 1) && nat_lt x (min high 127)) && b) (from_place (min low 127) x (omega arith) (omega arith)) ∙ inside x low high (bit_at bits x == 1) fits below)
      | inr e ↦ outside x low high (bit_at bits x == 1) from e
    ])
  where
    from : Bool
    from = bit_at (2 ^ 128 - 1 - (2 ^ min low 127 - 1)) x == 1

    inside : (x low high : ℕ) (b : Bool) → high ≤ 127 → x < high → ((b && nat_lt x (min high 127)) && nat_le (min low 127) x) ≡ (b && (nat_le low x && nat_lt x high))
    inside x low high b fits below = grind (arith, nat_tests)

    outside : (x low high : ℕ) (b c : Bool) → nat_lt x high ≡ false → ((b && nat_lt x (min high 127)) && c) ≡ (b && (nat_le low x && nat_lt x high))
    outside x low high b c late = grind (arith, nat_tests)

-- ---- what lies between two addresses, and all but the own one

-- strictly between two addresses that go up, and otherwise
pub between-up : (from to behind before a : ℕ) → from < to → from < 256 → behind ≡ 2 ^ min (min (from + 1) 255) 127 - 1 → before ≡ 2 ^ min to 127 - 1 → a < 127
    → (bit_at (bit_and (2 ^ 128 - 1 - behind) before) a == 1) ≡ is_between from to a
between-up from to behind before a up small e f low =
    ap (λ (b : ℕ). bit_at (bit_and (2 ^ 128 - 1 - b) before) a == 1) e
    ∙ ap (λ (b : ℕ). bit_at (bit_and (2 ^ 128 - 1 - (2 ^ min (min (from + 1) 255) 127 - 1)) b) a == 1) f
    ∙ both (2 ^ 128 - 1 - (2 ^ min (min (from + 1) 255) 127 - 1)) (2 ^ min to 127 - 1) a
    ∙ ap (λ (b : Bool). b && (bit_at (2 ^ min to 127 - 1) a == 1)) (from_place (min (min (from + 1) 255) 127) a (omega arith) (omega arith))
    ∙ ap (λ (b : Bool). nat_le (min (min (from + 1) 255) 127) a && b) (is_below (min to 127) a)
    ∙ same from to a up low
  where
    same : (from to a : ℕ) → from < to → a < 127 → (nat_le (min (min (from + 1) 255) 127) a && nat_lt a (min to 127)) ≡ is_between from to a
    same from to a up low = grind (arith, nat_tests)

pub between-round : (from to behind before a : ℕ) → to ≤ from → from < 256 → behind ≡ 2 ^ min (min (from + 1) 255) 127 - 1 → before ≡ 2 ^ min to 127 - 1 → a < 127
    → (bit_at (bit_or (2 ^ 128 - 1 - behind) before) a == 1) ≡ is_between from to a
between-round from to behind before a down small e f low =
    ap (λ (b : ℕ). bit_at (bit_or (2 ^ 128 - 1 - b) before) a == 1) e
    ∙ ap (λ (b : ℕ). bit_at (bit_or (2 ^ 128 - 1 - (2 ^ min (min (from + 1) 255) 127 - 1)) b) a == 1) f
    ∙ either (2 ^ 128 - 1 - (2 ^ min (min (from + 1) 255) 127 - 1)) (2 ^ min to 127 - 1) a
    ∙ ap (λ (b : Bool). b || (bit_at (2 ^ min to 127 - 1) a == 1)) (from_place (min (min (from + 1) 255) 127) a (omega arith) (omega arith))
    ∙ ap (λ (b : Bool). nat_le (min (min (from + 1) 255) 127) a || b) (is_below (min to 127) a)
    ∙ same from to a down low
  where
    same : (from to a : ℕ) → to ≤ from → a < 127 → (nat_le (min (min (from + 1) 255) 127) a || nat_lt a (min to 127)) ≡ is_between from to a
    same from to a down low = grind (arith, nat_tests)

-- all bits are set
pub all-set : (a : ℕ) → a < 127 → (bit_at (2 ^ 128 - 1) a == 1) ≡ true
all-set a low = bit-true (2 ^ 128 - 1) a (bit_at_ones 128 a (omega arith))

pub all_but-own : (own a : ℕ) → own < 127 → a < 127 → (bit_at (2 ^ 128 - 1 - 1 * 2 ^ own % 2 ^ 128) a == 1) ≡ not (own == a)
all_but-own own a station low =
    ap (λ (n : ℕ). bit_at (2 ^ 128 - 1 - n) a == 1) (one_shl own 128 (omega arith))
    ∙ neither (2 ^ own) a (pow-lt {i = own} {j = 128} (omega arith)) (omega arith)
    ∙ ap not (elim (cases_eq own a) [
      | inl same ↦ bit-true (2 ^ own) a (ap (λ (x : ℕ). bit_at (2 ^ own) x) (sym same) ∙ bit_at-pow_same own) ∙ sym (eq-eqb own a same)
      | inr other ↦ bit-false (2 ^ own) a (bit_at-pow_other own a (λ e. other (sym e))) ∙ sym (ne_eqb own a other)
    ])

-- what a token removes, up to a highest address
pub removed-set : (own : Option ℕ) (sa da highest m n : ℕ) → highest < 127 → IsSetOf (is_between sa da) m → IsSetOf (λ x. not (is_own own x)) n
    → listed (bit_and (bit_and m n) (2 ^ min (highest + 1) 127 - 1)) ≡ filter (λ x. removes own sa da x && nat_le x highest) addresses
removed-set own sa da highest m n fits between others =
    filter-addresses (λ x. bit_at (bit_and (bit_and m n) (2 ^ min (highest + 1) 127 - 1)) x == 1) (λ x. removes own sa da x && nat_le x highest)
    (λ x low. both (bit_and m n) (2 ^ min (highest + 1) 127 - 1) x
    ∙ ap (λ (b : Bool). b && (bit_at (2 ^ min (highest + 1) 127 - 1) x == 1))
    (both m n x ∙ ap (λ (b : Bool). b && (bit_at n x == 1)) (between x low) ∙ ap (λ (b : Bool). is_between sa da x && b) (others x low))
    ∙ ap (λ (b : Bool). removes own sa da x && b) (is_below (min (highest + 1) 127) x ∙ (let upto : nat_lt x (min (highest + 1) 127) ≡ nat_le x highest = grind (arith, nat_tests) in upto)))

pub removed-fits : (highest m n : ℕ) → m < 2 ^ 128 → n < 2 ^ 128 → bit_and (bit_and m n) (2 ^ min (highest + 1) 127 - 1) < 2 ^ 127
removed-fits highest m n first second = omega (arith, mask_lt (bit_and m n) (min (highest + 1) 127), pow_mono {i = min (highest + 1) 127} {j = 127} (omega arith))

-- ---- the lowest and the highest bit

pub highest-set : (n k : ℕ) → 2 ^ k ≤ n → n < 2 * 2 ^ k → bit_at n k ≡ 1
highest-set n k low high = ap (λ (q : ℕ). q % 2) (div-eq_of_lt-le {k = 1} (2 ^ k) {m = n} (omega (arith, low)) (omega (arith, high)))

pub none-above : (n k x : ℕ) → n < 2 * 2 ^ k → k < x → bit_at n x ≡ 0
none-above n k x high above = bit_at_above n (k + 1) x (omega (arith, high, twice k)) (omega arith)
  where
    twice : (k : ℕ) → 2 ^ (k + 1) ≡ 2 * 2 ^ k
    twice k = ap (λ (m : ℕ). 2 ^ m) (let next : k + 1 ≡ suc k = omega arith in next) ∙ pow-succ' 2 k

-- ---- a part of a set: what is set in it, what isn't, and where it is empty

abbrev pub IsPart : (bits part low high : ℕ) → Type 0
IsPart bits part low high = (x : ℕ) → (bit_at part x == 1) ≡ (bit_at bits x == 1 && (nat_le low x && nat_lt x high))

pub part-set : (bits part low high a : ℕ) → IsPart bits part low high → bit_at part a ≡ 1 → ((bit_at bits a == 1) ≡ true) × (low ≤ a) × (a < high)
part-set bits part low high a is set =
    let all : (bit_at bits a == 1 && (nat_le low a && nat_lt a high)) ≡ true = sym (is a) ∙ bit-true part a set in
    let range : (nat_le low a && nat_lt a high) ≡ true = grind (arith, nat_tests) in
    (grind (arith, nat_tests), grind (arith, nat_tests), grind (arith, nat_tests))

pub part-clear : (bits part low high x : ℕ) → IsPart bits part low high → bit_at part x ≡ 0 → low ≤ x → x < high → (bit_at bits x == 1) ≡ false
part-clear bits part low high x is clear from below =
    let none : (bit_at bits x == 1 && (nat_le low x && nat_lt x high)) ≡ false = sym (is x) ∙ bit-false part x clear in
    of_range (bit_at bits x == 1) (nat_le low x) (nat_lt x high) (le-leb low x from) (lt-ltb x high below) none
  where
    of_range : (b c d : Bool) → c ≡ true → d ≡ true → (b && (c && d)) ≡ false → b ≡ false
    of_range b true true e f none = grind (arith, nat_tests)
    of_range b true false e f none = absurd (let wrong : false ≡ true = f in cc)
    of_range b false d e f none = absurd (let wrong : false ≡ true = e in cc)

pub part-none : (bits part low high : ℕ) → IsPart bits part low high → part ≡ 0 → (x : ℕ) → low ≤ x → x < high → (bit_at bits x == 1) ≡ false
part-none bits part low high is empty x from below =
    part-clear bits part low high x is (ap (λ (n : ℕ). bit_at n x) empty ∙ bit_at-zero x) from below
