-- Frame count bits in the bits of two numbers.
use Rattle.std.proofs.Common.{◌≡◌, ◌≢◌, ◌∙◌, ap, sym, refl, arith, inl, inr, ℕ, ◌^◌, ◌<◌, Bool, true, false, ◌==◌, ◌&&◌, List, length, get_or, map, bit_and}
use Rattle.std.specs.Prelude.{min, replicate, slice_set}
use Rattle.std.specs.Bool.{Decides}
use Rattle.std.specs.Int.{bit_at}
use Rattle.std.specs.List.{range_with_len}
use Rattle.std.proofs.lemmas.Bool.{cases_eq, cases_lt}
use Rattle.std.proofs.lemmas.Bool.Decides.{nat_tests}
use Rattle.std.proofs.lemmas.List.{get_or-set_same, get_or-set_other, length-set, length-replicate, get_or-replicate}
use Rattle.std.proofs.lemmas.List.FromFn.{length-map-range_with_len, get_or-map-range_with_len, fill_by_all}
use Rattle.std.proofs.lemmas.Nat.Bits.{bit_at-zero, bit_at-lt, bit_at_and, bit_at_above, same_from_bits, same_from_bits_below}
use Rattle.pb_cycles.specs.CountMasks.{count_of, count_in, counts_in}
use Rattle.pb_telegram.specs.declared.control.FrameCount.{FrameCount}
use Rattle.pb_telegram.specs.declared.control.FrameCount.TheVariants.{First}

-- ---- the list

run : (n : ℕ) × (n ≡ 127) × ((c s : ℕ) → counts_in c s ≡ map (count_in c s) (range_with_len 0 n))
unfolding counts_in
run = (127, refl, λ c s. refl)

pub length-counts_in : (c s : ℕ) → length (counts_in c s) ≡ 127
length-counts_in c s = ap length (run.2 c s) ∙ length-map-range_with_len (count_in c s) 0 run.0 ∙ run.1

pub get_or-counts_in : (c s i : ℕ) (d : FrameCount) → i < 127 → get_or (counts_in c s) i d ≡ count_in c s i
get_or-counts_in c s i d low =
    ap (λ (xs : List FrameCount). get_or xs i d) (run.2 c s)
    ∙ get_or-map-range_with_len (count_in c s) 0 run.0 i i d (omega (arith, run.1)) (omega arith)

-- a list that has what comes next to each address is the list of it
by_index : (xs : List FrameCount) (c s : ℕ) → length xs ≡ 127 → ((i : ℕ) → i < 127 → get_or xs i First ≡ count_in c s i) → xs ≡ counts_in c s
by_index xs c s whole each =
    fill_by_all (count_in c s) xs run.0 First (whole ∙ sym run.1) (λ i low. each i (omega (arith, low, run.1))) ∙ sym (run.2 c s)

pub counts_in-zero : (n : ℕ) → n ≡ 127 → replicate n First ≡ counts_in 0 0
counts_in-zero n whole =
    by_index (replicate n First) 0 0 (length-replicate n First ∙ whole)
    (λ i low. get_or-replicate n i First First (omega arith) ∙ sym (ap (λ (b : ℕ). count_of (b == 1) (b == 1)) (bit_at-zero i)))

-- other bits at one address only
pub counts_in-put : (c s d t a : ℕ) (x y : Bool) (xs : List FrameCount) → a < 127 → counts_in c s ≡ xs
    → (bit_at d a == 1) ≡ x → (bit_at t a == 1) ≡ y
    → ((i : ℕ) → i < 127 → i ≢ a → bit_at d i ≡ bit_at c i) → ((i : ℕ) → i < 127 → i ≢ a → bit_at t i ≡ bit_at s i)
    → counts_in d t ≡ slice_set xs a (count_of x y)
counts_in-put c s d t a x y xs place was counting set others rest =
    sym (by_index (slice_set (counts_in c s) a (count_of x y)) d t (length-set (counts_in c s) a (count_of x y) ∙ length-counts_in c s) each)
    ∙ ap (λ (ys : List FrameCount). slice_set ys a (count_of x y)) was
  where
    here : get_or (slice_set (counts_in c s) a (count_of x y)) a First ≡ count_in d t a
    here = get_or-set_same (counts_in c s) a (count_of x y) First (omega (arith, length-counts_in c s))
        ∙ sym (ap (λ (b : Bool). count_of b (bit_at t a == 1)) counting ∙ ap (λ (b : Bool). count_of x b) set)

    there : (i : ℕ) → i < 127 → i ≢ a → get_or (slice_set (counts_in c s) a (count_of x y)) i First ≡ count_in d t i
    there i low apart =
        get_or-set_other (counts_in c s) a i (count_of x y) First apart ∙ get_or-counts_in c s i First low
        ∙ sym (ap (λ (b : ℕ). count_of (b == 1) (bit_at t i == 1)) (others i low apart) ∙ ap (λ (b : ℕ). count_of (bit_at c i == 1) (b == 1)) (rest i low apart))

    each : (i : ℕ) → i < 127 → get_or (slice_set (counts_in c s) a (count_of x y)) i First ≡ count_in d t i
    each i low =
        elim (cases_eq i a) [
          | inl same ↦ ap (λ (j : ℕ). get_or (slice_set (counts_in c s) a (count_of x y)) j First) same ∙ here ∙ sym (ap (count_in d t) same)
          | inr apart ↦ there i low apart
        ]

-- ---- two lists

-- what is said is the same where the tests are
tests_of : (x y z w : Bool) → count_of x y ≡ count_of z w → (x ≡ z) × ((y && x) ≡ (w && z))
tests_of false false false false e = (refl, refl)
tests_of false false false true e = (refl, refl)
tests_of false true false false e = (refl, refl)
tests_of false true false true e = (refl, refl)
tests_of true false true false e = (refl, refl)
tests_of true true true true e = (refl, refl)
tests_of false y true false e = absurd cc
tests_of false y true true e = absurd cc
tests_of true false false w e = absurd cc
tests_of true true false w e = absurd cc
tests_of true false true true e = absurd cc
tests_of true true true false e = absurd cc

count_of_tests : (x y w : Bool) → (y && x) ≡ (w && x) → count_of x y ≡ count_of x w
count_of_tests false y w e = refl
count_of_tests true false false e = refl
count_of_tests true true true e = refl
count_of_tests true false true e = absurd cc
count_of_tests true true false e = absurd cc

-- a bit by its test
bit_of_test : (p q : ℕ) → p < 2 → q < 2 → (p == 1) ≡ (q == 1) → p ≡ q
bit_of_test p q low high e = grind (arith, nat_tests)

one_of_both : (p q : ℕ) → p < 2 → q < 2 → (min p q == 1) ≡ ((p == 1) && (q == 1))
one_of_both p q low high = grind (arith, nat_tests)

same_counting : (p q r s : ℕ) → p < 2 → r < 2 → count_of (p == 1) (q == 1) ≡ count_of (r == 1) (s == 1) → p ≡ r
same_counting p q r s low high e = bit_of_test p r low high (tests_of (p == 1) (q == 1) (r == 1) (s == 1) e).0

same_set : (p q r s : ℕ) → p < 2 → q < 2 → r < 2 → s < 2 → count_of (p == 1) (q == 1) ≡ count_of (r == 1) (s == 1) → min q p ≡ min s r
same_set p q r s a b c d e =
    bit_of_test (min q p) (min s r) (omega arith) (omega arith)
    (one_of_both q p b a ∙ (tests_of (p == 1) (q == 1) (r == 1) (s == 1) e).1 ∙ sym (one_of_both s r d c))

same_count : (p q s : ℕ) → p < 2 → q < 2 → s < 2 → min q p ≡ min s p → count_of (p == 1) (q == 1) ≡ count_of (p == 1) (s == 1)
same_count p q s a b c e =
    count_of_tests (p == 1) (q == 1) (s == 1) (sym (one_of_both q p b a) ∙ ap (λ (n : ℕ). n == 1) e ∙ one_of_both s p c a)

alike : (c s d t : ℕ) → counts_in c s ≡ counts_in d t → (i : ℕ) → i < 127 → count_in c s i ≡ count_in d t i
alike c s d t e i low = sym (get_or-counts_in c s i First low) ∙ ap (λ (xs : List FrameCount). get_or xs i First) e ∙ get_or-counts_in d t i First low

counting_of : (c s d t : ℕ) → c < 2 ^ 127 → d < 2 ^ 127 → counts_in c s ≡ counts_in d t → c ≡ d
counting_of c s d t low high e =
    same_from_bits_below 127 c d low high (λ i here. same_counting (bit_at c i) (bit_at s i) (bit_at d i) (bit_at t i) (bit_at-lt c i) (bit_at-lt d i) (alike c s d t e i here))

set_of : (c s d t : ℕ) → c < 2 ^ 127 → d < 2 ^ 127 → counts_in c s ≡ counts_in d t → bit_and s c ≡ bit_and t d
set_of c s d t low high e =
    same_from_bits (bit_and s c) (bit_and t d) (λ i. bit_at_and s c i ∙ at i ∙ sym (bit_at_and t d i))
  where
    at : (i : ℕ) → min (bit_at s i) (bit_at c i) ≡ min (bit_at t i) (bit_at d i)
    at i =
        elim (cases_lt i 127) [
          | inl here ↦ same_set (bit_at c i) (bit_at s i) (bit_at d i) (bit_at t i) (bit_at-lt c i) (bit_at-lt s i) (bit_at-lt d i) (bit_at-lt t i) (alike c s d t e i here)
          | inr above ↦ (let none : bit_at c i ≡ 0 = bit_at_above c 127 i low above in
              let nor : bit_at d i ≡ 0 = bit_at_above d 127 i high above in
              omega (arith, none, nor))
        ]

counts_of : (c s d t : ℕ) → c ≡ d → bit_and s c ≡ bit_and t d → counts_in c s ≡ counts_in d t
counts_of c s d t same set =
    by_index (counts_in c s) d t (length-counts_in c s) (λ i low. get_or-counts_in c s i First low ∙ at i)
  where
    both : (i : ℕ) → min (bit_at s i) (bit_at d i) ≡ min (bit_at t i) (bit_at d i)
    both i =
        ap (λ (n : ℕ). min (bit_at s i) (bit_at n i)) (sym same) ∙ sym (bit_at_and s c i) ∙ ap (λ (n : ℕ). bit_at n i) set ∙ bit_at_and t d i

    at : (i : ℕ) → count_in c s i ≡ count_in d t i
    at i =
        ap (λ (n : ℕ). count_in n s i) same
        ∙ same_count (bit_at d i) (bit_at s i) (bit_at t i) (bit_at-lt d i) (bit_at-lt s i) (bit_at-lt t i) (both i)

-- a test of the numbers is one of the lists
pub counts_agree : (c s d t : ℕ) (xs ys : List FrameCount) (r : Bool) → counts_in c s ≡ xs → counts_in d t ≡ ys → c < 2 ^ 127 → d < 2 ^ 127
    → Decides r ((c ≡ d) × (bit_and s c ≡ bit_and t d)) → Decides r (xs ≡ ys)
counts_agree c s d t xs ys r first second low high tests = (
  (λ h. sym first ∙ counts_of c s d t (tests.0 h).0 (tests.0 h).1 ∙ second),
  λ e. let same : counts_in c s ≡ counts_in d t = first ∙ e ∙ sym second in tests.1 (counting_of c s d t low high same, set_of c s d t low high same),
)
