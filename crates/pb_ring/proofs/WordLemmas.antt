-- What setting and clearing a bit does to the set that the bits list.
use Rattle.std.proofs.Common.{Option, Some, None, ◌≡◌, ℕ, ◌+◌, ◌-◌, ◌*◌, ◌%◌, ◌^◌, ◌<◌, ◌≤◌, List, [], ◌∷◌, Bool, true, false, ◌==◌, ◌&&◌, ◌||◌, refl, ap, sym, ◌∙◌, subst, arith, inl, inr, bit_and, bit_or}
use Rattle.std.specs.Prelude.{filter, not, nat_le, nat_lt, min, IsTrue, ◌↔◌}
use Rattle.std.specs.Option.{option_or}
use Rattle.std.proofs.lemmas.Bool.Decides.{nat_tests}
use Rattle.std.specs.Int.{bit_at}
use Rattle.std.proofs.lemmas.Bool.Decides.{Decides-eqb}
use Rattle.std.proofs.Math.Bool.{and-true}
use Rattle.std.proofs.lemmas.Bool.{and_right, and_from, and_left, lt-ltb, le-leb, leb-true, ltb-true, cases_Bool, eq-eqb, ne_eqb, cases_eq}
use Rattle.std.proofs.lemmas.Nat.{or_lt, one_shl}
use Rattle.std.proofs.lemmas.Nat.Bits.{bit_at-zero, bit_at_set_same, bit_at_set_other, bit_at_clear_same, bit_at_clear_other, bit_at-lt, bit_at_and, bit_at_not}
use Rattle.std.proofs.Math.Pow.{pow-lt}
use mir.Syntax.{w128}
use Rattle.pb_ring.specs.AddressSets.{addresses, is_member, with_address, without_address, is_same, removes, first_of, last_of, from_behind, from_at}
use Rattle.pb_ring.specs.Words.{listed, bits_of}
use Rattle.pb_ring.specs.SameWords.{bits_of-listed}
use Rattle.pb_ring.proofs.SetLemmas.{filter-addresses, filter-filter, upto-highest, is_member-addresses, with_address-addresses, lowest-found, lowest-none, highest-found, highest-none, first_of-append, last_of-append, is_same-true, is_same-refl}

filter-none : (xs : List ℕ) → filter (λ (x : ℕ). false) xs ≡ []
filter-none [] = refl
filter-none (x ∷ xs) = filter-none xs

pub listed-zero : listed 0 ≡ []
listed-zero = filter-addresses (λ x. bit_at 0 x == 1) (λ x. false) (λ x low. rw (bit_at-zero x) refl) ∙ filter-none addresses

pub is_member-bits : (n a : ℕ) → a < 127 → is_member (listed n) a ≡ (bit_at n a == 1)
is_member-bits n a fits = is_member-addresses (λ x. bit_at n x == 1) a fits

pub listed-set : (n k : ℕ) → k < 127 → listed (bit_or n (1 * 2 ^ k % 2 ^ 128)) ≡ with_address k (listed n)
listed-set n k fits =
    filter-addresses (λ x. bit_at (bit_or n (1 * 2 ^ k % 2 ^ 128)) x == 1) (λ x. x == k || bit_at n x == 1)
    (λ x low. elim (cases_eq x k) [
      | inl same ↦ rw (same, bit_at_set_same w128 n k (omega arith), eq-eqb k k refl) refl
      | inr other ↦ rw (bit_at_set_other w128 n k (omega arith) x other, ne_eqb x k other) refl
    ])
    ∙ sym (with_address-addresses (λ x. bit_at n x == 1) k fits)

pub listed-clear : (n k : ℕ) → k < 127 → listed (bit_and n (2 ^ 128 - 1 - 1 * 2 ^ k % 2 ^ 128)) ≡ without_address k (listed n)
listed-clear n k fits =
    filter-addresses (λ x. bit_at (bit_and n (2 ^ 128 - 1 - 1 * 2 ^ k % 2 ^ 128)) x == 1) (λ x. bit_at n x == 1 && not (x == k))
    (λ x low. elim (cases_eq x k) [
      | inl same ↦ (let clear : bit_at (bit_and n (2 ^ 128 - 1 - 1 * 2 ^ k % 2 ^ 128)) x ≡ 0 = rw same (bit_at_clear_same w128 n k (omega arith)) in
          let here : not (x == k) ≡ false = ap not (eq-eqb x k same) in
          ap (λ (b : ℕ). b == 1) clear ∙ sym (and_right (bit_at n x == 1) (not (x == k)) here))
      | inr other ↦ (let there : not (x == k) ≡ true = ap not (ne_eqb x k other) in
          ap (λ (b : ℕ). b == 1) (bit_at_clear_other w128 n k (omega arith) x (omega arith) other) ∙ sym (ap (λ b. (bit_at n x == 1) && b) there ∙ and-true (bit_at n x == 1)))
    ])
    ∙ sym (filter-filter (λ x. bit_at n x == 1) (λ x. not (x == k)) addresses)

pub set-fits : (n k : ℕ) → k < 127 → n < 2 ^ 127 → bit_or n (1 * 2 ^ k % 2 ^ 128) < 2 ^ 127
set-fits n k low fits = or_lt 127 n (1 * 2 ^ k % 2 ^ 128) fits (omega (arith, one_shl k 128 (omega arith), pow-lt {i = k} {j = 127} low))

-- ---- two sets

one_of_both : (p q : ℕ) → p < 2 → q < 2 → (min p q == 1) ≡ ((p == 1) && (q == 1))
one_of_both p q h k = grind (arith, nat_tests)

one_of_first : (p q : ℕ) → p < 2 → q < 2 → (min p (1 - q) == 1) ≡ ((p == 1) && not (q == 1))
one_of_first p q h k = grind (arith, nat_tests)

pub listed-common : (m n : ℕ) → listed (bit_and m n) ≡ filter (λ x. is_member (listed n) x) (listed m)
listed-common m n =
    filter-addresses (λ x. bit_at (bit_and m n) x == 1) (λ x. bit_at m x == 1 && is_member (listed n) x)
    (λ x low. ap (λ (b : ℕ). b == 1) (bit_at_and m n x) ∙ one_of_both (bit_at m x) (bit_at n x) (bit_at-lt m x) (bit_at-lt n x)
    ∙ ap (λ (b : Bool). (bit_at m x == 1) && b) (sym (is_member-addresses (λ x. bit_at n x == 1) x low)))
    ∙ sym (filter-filter (λ x. bit_at m x == 1) (λ x. is_member (listed n) x) addresses)

listed-without : (m n : ℕ) → n < 2 ^ 127 → listed (bit_and m (2 ^ 128 - 1 - n)) ≡ filter (λ x. not (is_member (listed n) x)) (listed m)
listed-without m n fits =
    filter-addresses (λ x. bit_at (bit_and m (2 ^ 128 - 1 - n)) x == 1) (λ x. bit_at m x == 1 && not (is_member (listed n) x))
    (λ x low. ap (λ (b : ℕ). b == 1) (bit_at_and m (2 ^ 128 - 1 - n) x ∙ ap (λ (b : ℕ). min (bit_at m x) b) (bit_at_not w128 n x (omega arith) (omega arith)))
    ∙ one_of_first (bit_at m x) (bit_at n x) (bit_at-lt m x) (bit_at-lt n x)
    ∙ ap (λ (b : Bool). (bit_at m x == 1) && not b) (sym (is_member-addresses (λ x. bit_at n x == 1) x low)))
    ∙ sym (filter-filter (λ x. bit_at m x == 1) (λ x. not (is_member (listed n) x)) addresses)

-- a set without what a token removes
pub listed-without_removed : (own : Option ℕ) (sa da m n : ℕ) → n < 2 ^ 127 → listed n ≡ filter (λ x. removes own sa da x && nat_le x 126) addresses
    → listed (bit_and m (2 ^ 128 - 1 - n)) ≡ filter (λ x. not (removes own sa da x)) (listed m)
listed-without_removed own sa da m n fits gone =
    listed-without m n fits
    ∙ filter-filter (λ x. bit_at m x == 1) (λ x. not (is_member (listed n) x)) addresses
    ∙ filter-addresses (λ x. bit_at m x == 1 && not (is_member (listed n) x)) (λ x. bit_at m x == 1 && not (removes own sa da x))
    (λ x low. ap (λ (b : Bool). (bit_at m x == 1) && not b)
    (ap (λ (xs : List ℕ). is_member xs x) gone ∙ is_member-addresses (λ x. removes own sa da x && nat_le x 126) x low ∙ upto-highest (removes own sa da x) x low))
    ∙ sym (filter-filter (λ x. bit_at m x == 1) (λ x. not (removes own sa da x)) addresses)

pub is_same-listed : (m n : ℕ) → m < 2 ^ 127 → n < 2 ^ 127 → (m == n) ≡ is_same (listed m) (listed n)
is_same-listed m n low high =
    elim (cases_eq m n) [
      | inl same ↦ eq-eqb m n same ∙ sym (subst (λ (k : ℕ). is_same (listed m) (listed k) ≡ true) same (is_same-refl (listed m)))
      | inr other ↦ (elim (cases_Bool (is_same (listed m) (listed n))) [
        | inl equal ↦ absurd (other (sym (bits_of-listed m low) ∙ ap bits_of (is_same-true (listed m) (listed n) equal) ∙ bits_of-listed n high))
        | inr apart ↦ ne_eqb m n other ∙ sym apart
      ])
    ]

-- ---- the lowest and the highest bit of a range

abbrev pub is_within : ℕ → ℕ → ℕ → Bool
is_within low high x = nat_le low x && nat_lt x high

-- no bit from a place on and below another is set
abbrev pub NoneSet : ℕ → ℕ → ℕ → Type 0
NoneSet bits low high = (x : ℕ) → low ≤ x → x < high → (bit_at bits x == 1) ≡ false

outside : (low high x : ℕ) (b : Bool) → (low ≤ x → x < high → b ≡ false) → (b && is_within low high x) ≡ false
outside low high x b none =
    elim (cases_Bool (nat_le low x)) [
      | inl e ↦ (elim (cases_Bool (nat_lt x high)) [
        | inl h ↦ and_left b (is_within low high x) (none (leb-true low x e) (ltb-true x high h))
        | inr h ↦ and_right b (is_within low high x) (and_right (nat_le low x) (nat_lt x high) h)
      ])
      | inr e ↦ and_right b (is_within low high x) (and_left (nat_le low x) (nat_lt x high) e)
    ]

inside : (low high x : ℕ) (b : Bool) → low ≤ x → x < high → b ≡ true → (b && is_within low high x) ≡ true
inside low high x b l h e = and_from b (is_within low high x) e (and_from (nat_le low x) (nat_lt x high) (le-leb low x l) (lt-ltb x high h))

pub lowest-is : (bits low high a : ℕ) → high ≤ 127 → low ≤ a → a < high → (bit_at bits a == 1) ≡ true → NoneSet bits low a
    → Some a ≡ first_of (filter (λ x. nat_le low x && nat_lt x high) (listed bits))
lowest-is bits low high a fits from below set none =
    sym (ap first_of (filter-filter (λ x. bit_at bits x == 1) (λ x. is_within low high x) addresses)
    ∙ lowest-found (λ x. bit_at bits x == 1 && is_within low high x) a (omega arith) (inside low high a (bit_at bits a == 1) from below set)
    (λ x h. outside low high x (bit_at bits x == 1) (λ l k. none x l h)))

pub lowest-is_none : (bits low high : ℕ) → high ≤ 127 → NoneSet bits low high → None ≡ first_of (filter (λ x. nat_le low x && nat_lt x high) (listed bits))
lowest-is_none bits low high fits none =
    sym (ap first_of (filter-filter (λ x. bit_at bits x == 1) (λ x. is_within low high x) addresses)
    ∙ lowest-none (λ x. bit_at bits x == 1 && is_within low high x) (λ x. outside low high x (bit_at bits x == 1) (none x)))

pub highest-is : (bits low high a : ℕ) → high ≤ 127 → low ≤ a → a < high → (bit_at bits a == 1) ≡ true → NoneSet bits (a + 1) high
    → Some a ≡ last_of (filter (λ x. nat_le low x && nat_lt x high) (listed bits))
highest-is bits low high a fits from below set none =
    sym (ap last_of (filter-filter (λ x. bit_at bits x == 1) (λ x. is_within low high x) addresses)
    ∙ highest-found (λ x. bit_at bits x == 1 && is_within low high x) a (omega arith) (inside low high a (bit_at bits a == 1) from below set)
    (λ x h. outside low high x (bit_at bits x == 1) (λ l k. none x (omega arith) k)))

pub highest-is_none : (bits low high : ℕ) → high ≤ 127 → NoneSet bits low high → None ≡ last_of (filter (λ x. nat_le low x && nat_lt x high) (listed bits))
highest-is_none bits low high fits none =
    sym (ap last_of (filter-filter (λ x. bit_at bits x == 1) (λ x. is_within low high x) addresses)
    ∙ highest-none (λ x. bit_at bits x == 1 && is_within low high x) (λ x. outside low high x (bit_at bits x == 1) (none x)))

-- ---- cyclic order

-- a range of the bits, as a test of the addresses
within-addresses : (n low high : ℕ) (g : ℕ → Bool) → ((x : ℕ) → x < 127 → g x ≡ is_within low high x) → filter g (listed n) ≡ filter (λ x. nat_le low x && nat_lt x high) (listed n)
within-addresses n low high g same =
    filter-filter (λ x. bit_at n x == 1) g addresses
    ∙ filter-addresses (λ x. bit_at n x == 1 && g x) (λ x. bit_at n x == 1 && is_within low high x) (λ x h. ap (λ (b : Bool). (bit_at n x == 1) && b) (same x h))
    ∙ sym (filter-filter (λ x. bit_at n x == 1) (λ x. is_within low high x) addresses)

pub first_of-behind : (n a : ℕ) → first_of (from_behind a (listed n))
    ≡ option_or (first_of (filter (λ x. nat_le (a + 1) x && nat_lt x 127) (listed n))) (first_of (filter (λ x. nat_le 0 x && nat_lt x (a + 1)) (listed n)))
first_of-behind n a =
    first_of-append (filter (λ x. nat_lt a x) (listed n)) (filter (λ x. nat_le x a) (listed n))
    ∙ ap (λ (xs : List ℕ). option_or (first_of xs) (first_of (filter (λ x. nat_le x a) (listed n)))) (within-addresses n (a + 1) 127 (λ x. nat_lt a x) (λ x h. above a x h))
    ∙ ap (λ (xs : List ℕ). option_or (first_of (filter (λ x. nat_le (a + 1) x && nat_lt x 127) (listed n))) (first_of xs)) (within-addresses n 0 (a + 1) (λ x. nat_le x a) (λ x h. upto a x))
  where
    above : (a x : ℕ) → x < 127 → nat_lt a x ≡ is_within (a + 1) 127 x
    above a x h = grind (arith, nat_tests)

    upto : (a x : ℕ) → nat_le x a ≡ is_within 0 (a + 1) x
    upto a x = grind (arith, nat_tests)

pub last_of-at : (n a : ℕ) → last_of (from_at a (listed n))
    ≡ option_or (last_of (filter (λ x. nat_le 0 x && nat_lt x a) (listed n))) (last_of (filter (λ x. nat_le a x && nat_lt x 127) (listed n)))
last_of-at n a =
    last_of-append (filter (λ x. nat_le a x) (listed n)) (filter (λ x. nat_lt x a) (listed n))
    ∙ ap (λ (xs : List ℕ). option_or (last_of xs) (last_of (filter (λ x. nat_le a x) (listed n)))) (within-addresses n 0 a (λ x. nat_lt x a) (λ x h. below a x))
    ∙ ap (λ (xs : List ℕ). option_or (last_of (filter (λ x. nat_le 0 x && nat_lt x a) (listed n))) (last_of xs)) (within-addresses n a 127 (λ x. nat_le a x) (λ x h. from a x h))
  where
    below : (a x : ℕ) → nat_lt x a ≡ is_within 0 a x
    below a x = grind (arith, nat_tests)

    from : (a x : ℕ) → x < 127 → nat_le a x ≡ is_within a 127 x
    from a x h = grind (arith, nat_tests)

pub behind-above : (n a v : ℕ) → Some v ≡ first_of (filter (λ x. nat_le (a + 1) x && nat_lt x 127) (listed n)) → Some v ≡ first_of (from_behind a (listed n))
behind-above n a v e = sym (first_of-behind n a ∙ ap (λ (o : Option ℕ). option_or o (first_of (filter (λ x. nat_le 0 x && nat_lt x (a + 1)) (listed n)))) (sym e))

pub behind-wrapped : (n a : ℕ) (o : Option ℕ) → None ≡ first_of (filter (λ x. nat_le (a + 1) x && nat_lt x 127) (listed n))
    → o ≡ first_of (filter (λ x. nat_le 0 x && nat_lt x (a + 1)) (listed n)) → o ≡ first_of (from_behind a (listed n))
behind-wrapped n a o above e =
    sym (first_of-behind n a ∙ ap (λ (o : Option ℕ). option_or o (first_of (filter (λ x. nat_le 0 x && nat_lt x (a + 1)) (listed n)))) (sym above) ∙ sym e)

pub before-below : (n a v : ℕ) → Some v ≡ last_of (filter (λ x. nat_le 0 x && nat_lt x a) (listed n)) → Some v ≡ last_of (from_at a (listed n))
before-below n a v e = sym (last_of-at n a ∙ ap (λ (o : Option ℕ). option_or o (last_of (filter (λ x. nat_le a x && nat_lt x 127) (listed n)))) (sym e))

pub before-wrapped : (n a : ℕ) (o : Option ℕ) → None ≡ last_of (filter (λ x. nat_le 0 x && nat_lt x a) (listed n))
    → o ≡ last_of (filter (λ x. nat_le a x && nat_lt x 127) (listed n)) → o ≡ last_of (from_at a (listed n))
before-wrapped n a o below e =
    sym (last_of-at n a ∙ ap (λ (o : Option ℕ). option_or o (last_of (filter (λ x. nat_le a x && nat_lt x 127) (listed n)))) (sym below) ∙ sym e)

-- two sets are equal where their bits are
pub equal-words : (r : Bool) (xs ys : List ℕ) (m n : ℕ) → r ≡ (m == n) → listed m ≡ xs → listed n ≡ ys → m < 2 ^ 127 → n < 2 ^ 127 → r ≡ (bits_of xs == bits_of ys)
equal-words r xs ys m n e first second low high =
    let mine : bits_of xs ≡ m = sym (ap bits_of first) ∙ bits_of-listed m low in
    let theirs : bits_of ys ≡ n = sym (ap bits_of second) ∙ bits_of-listed n high in
    rw (mine, theirs) e

-- two sets are the same exactly where their bits are
pub same-words : (xs ys : List ℕ) (m n : ℕ) → listed m ≡ xs → listed n ≡ ys → m < 2 ^ 127 → n < 2 ^ 127 → IsTrue (m == n) ↔ (xs ≡ ys)
same-words xs ys m n first second low high =
    let mine : bits_of xs ≡ m = sym (ap bits_of first) ∙ bits_of-listed m low in
    let theirs : bits_of ys ≡ n = sym (ap bits_of second) ∙ bits_of-listed n high in (
      (λ same. sym first ∙ ap listed ((Decides-eqb m n).0 same) ∙ second),
      λ e. (Decides-eqb m n).1 (sym mine ∙ ap bits_of e ∙ theirs),
    )
