-- Sets of addresses as filtered runs of numbers.
use Rattle.std.proofs.Common.{suc, zero, Option, Some, None, ◌≡◌, ℕ, ◌+◌, ◌<◌, ◌≤◌, List, [], ◌∷◌, ◌++◌, Bool, true, false, ◌==◌, ◌&&◌, ◌||◌, refl, ap, sym, ◌∙◌, subst, arith}
use Rattle.std.specs.Prelude.{nat_lt, nat_le, filter, cond}
use Rattle.std.specs.List.{range_with_len}
use Rattle.std.specs.Option.{option_or}
use Rattle.std.proofs.lemmas.Bool.{and_parts, and_from, and_right, eqb-true, lt-ltb, le-ltb, le-leb, eq-eqb, ne_eqb, cond_both, cases_Bool, cases_eq}
use Rattle.std.proofs.lemmas.Bool.Decides.{nat_tests}
use Rattle.std.proofs.Common.{inl, inr}
use Rattle.pb_ring.specs.AddressSets.{addresses, is_member, with_address, is_same, first_of, last_of}
use Rattle.pb_ring.specs.SameWords.{addresses-run}

and_holds : (b t : Bool) → t ≡ true → (b && t) ≡ b
and_holds true t e = e
and_holds false t e = refl

-- ---- filters of a run

-- tests that agree on a run keep the same of it
pub filter-within : (f g : ℕ → Bool) (a n : ℕ) → ((x : ℕ) → a ≤ x → x < a + n → f x ≡ g x) → filter f (range_with_len a n) ≡ filter g (range_with_len a n)
filter-within f g a zero same = refl
filter-within f g a (suc n) same =
    let here : f a ≡ g a = same a (omega arith) (omega arith) in
    let rest : filter f (range_with_len (a + 1) n) ≡ filter g (range_with_len (a + 1) n) = filter-within f g (a + 1) n (λ x low high. same x (omega arith) (omega arith)) in
    cc

-- tests that agree on the addresses keep the same of them
pub filter-addresses : (f g : ℕ → Bool) → ((x : ℕ) → x < 127 → f x ≡ g x) → filter f addresses ≡ filter g addresses
filter-addresses f g same =
    let run = addresses-run in
    rw run.2 (filter-within f g 0 run.0 (λ x low high. same x (omega (arith, run.1))))

pub filter-filter : (f g : ℕ → Bool) (xs : List ℕ) → filter g (filter f xs) ≡ filter (λ x. f x && g x) xs
filter-filter f g [] = refl
filter-filter f g (x ∷ xs) =
    elim (f x) as (λ b. filter g (cond b (x ∷ filter f xs) (filter f xs)) ≡ cond (b && g x) (x ∷ filter (λ y. f y && g y) xs) (filter (λ y. f y && g y) xs))
    [ true ↦ ap (λ ys. cond (g x) (x ∷ ys) ys) (filter-filter f g xs) | false ↦ filter-filter f g xs ]

-- ---- membership

pub is_member-below : (f : ℕ → Bool) (s n a : ℕ) → a < s → is_member (filter f (range_with_len s n)) a ≡ false
is_member-below f s zero a low = refl
is_member-below f s (suc n) a low =
    let other : (s == a) ≡ false = ne_eqb s a (λ e. omega arith) in
    cond_both (f s) (s ∷ filter f (range_with_len (s + 1) n)) (filter f (range_with_len (s + 1) n)) (λ xs. is_member xs a ≡ false)
    (λ _. rw other (is_member-below f (s + 1) n a (omega arith)))
    (λ _. is_member-below f (s + 1) n a (omega arith))

pub is_member-within : (f : ℕ → Bool) (s n a : ℕ) → s ≤ a → a < s + n → is_member (filter f (range_with_len s n)) a ≡ f a
is_member-within f s zero a low high = absurd (omega arith)
is_member-within f s (suc n) a low high =
    elim (cases_eq s a) [
      | inl same ↦ subst (λ b. is_member (filter f (range_with_len s (suc n))) b ≡ f b) same (is_member-first f s n)
      | inr other ↦ is_member-later f s n a (ne_eqb s a other) (is_member-within f (s + 1) n a (omega arith) (omega arith))
    ]
  where
    is_member-first : (f : ℕ → Bool) (s n : ℕ) → is_member (filter f (range_with_len s (suc n))) s ≡ f s
    is_member-first f s n =
        elim (cases_Bool (f s)) [
          | inl e ↦ (let same : (s == s) ≡ true = eq-eqb s s refl in rw (e, same) refl)
          | inr e ↦ rw e (is_member-below f (s + 1) n s (omega arith))
        ]

    is_member-later : (f : ℕ → Bool) (s n a : ℕ) → (s == a) ≡ false → is_member (filter f (range_with_len (s + 1) n)) a ≡ f a → is_member (filter f (range_with_len s (suc n))) a ≡ f a
    is_member-later f s n a other rest =
        cond_both (f s) (s ∷ filter f (range_with_len (s + 1) n)) (filter f (range_with_len (s + 1) n)) (λ xs. is_member xs a ≡ f a)
        (λ _. rw other rest) (λ _. rest)

-- what a test keeps of the addresses has an address where the test holds
pub is_member-addresses : (f : ℕ → Bool) (a : ℕ) → a < 127 → is_member (filter f addresses) a ≡ f a
is_member-addresses f a fits =
    let run = addresses-run in
    rw run.2 (is_member-within f 0 run.0 a (omega arith) (omega (arith, run.1)))

-- ---- one more address

with_address-same : (a : ℕ) (xs : List ℕ) → with_address a (a ∷ xs) ≡ a ∷ xs
with_address-same a xs = rw (le-ltb a a (omega arith), eq-eqb a a refl) refl

with_address-low : (a x : ℕ) (xs : List ℕ) → a < x → with_address a (x ∷ xs) ≡ a ∷ x ∷ xs
with_address-low a x xs h = rw (lt-ltb a x h) refl

with_address-high : (a x : ℕ) (xs : List ℕ) → x < a → with_address a (x ∷ xs) ≡ x ∷ with_address a xs
with_address-high a x xs h = rw (le-ltb a x (omega arith), ne_eqb a x (λ e. omega arith)) refl

pub with_address-below : (f : ℕ → Bool) (a s n : ℕ) → a < s → with_address a (filter f (range_with_len s n)) ≡ a ∷ filter f (range_with_len s n)
with_address-below f a s zero h = refl
with_address-below f a s (suc n) h =
    cond_both (f s) (s ∷ filter f (range_with_len (s + 1) n)) (filter f (range_with_len (s + 1) n)) (λ xs. with_address a xs ≡ a ∷ xs)
    (λ _. with_address-low a s (filter f (range_with_len (s + 1) n)) h)
    (λ _. with_address-below f a (s + 1) n (omega arith))

pub with_address-within : (f : ℕ → Bool) (a s n : ℕ) → s ≤ a → a < s + n → with_address a (filter f (range_with_len s n)) ≡ filter (λ x. x == a || f x) (range_with_len s n)
with_address-within f a s zero low high = absurd (omega arith)
with_address-within f a s (suc n) low high =
    elim (cases_eq s a) [
      | inl same ↦ subst (λ b. with_address b (filter f (range_with_len s (suc n))) ≡ filter (λ x. x == b || f x) (range_with_len s (suc n))) same (first f s n)
      | inr other ↦ later f a s n (omega arith) (with_address-within f a (s + 1) n (omega arith) (omega arith))
    ]
  where
    first : (f : ℕ → Bool) (s n : ℕ) → with_address s (filter f (range_with_len s (suc n))) ≡ filter (λ x. x == s || f x) (range_with_len s (suc n))
    first f s n =
        let rest : filter f (range_with_len (s + 1) n) ≡ filter (λ x. x == s || f x) (range_with_len (s + 1) n) =
        filter-within f (λ x. x == s || f x) (s + 1) n (λ x l h. let other : (x == s) ≡ false = ne_eqb x s (λ e. omega arith) in rw other refl) in
        let one : with_address s (filter f (range_with_len s (suc n))) ≡ s ∷ filter f (range_with_len (s + 1) n) =
        cond_both (f s) (s ∷ filter f (range_with_len (s + 1) n)) (filter f (range_with_len (s + 1) n)) (λ xs. with_address s xs ≡ s ∷ filter f (range_with_len (s + 1) n))
        (λ _. with_address-same s (filter f (range_with_len (s + 1) n)))
        (λ _. with_address-below f s (s + 1) n (omega arith)) in
        one ∙ (let same : (s == s) ≡ true = eq-eqb s s refl in rw same (ap (λ xs. s ∷ xs) rest))

    later : (f : ℕ → Bool) (a s n : ℕ) → s < a → with_address a (filter f (range_with_len (s + 1) n)) ≡ filter (λ x. x == a || f x) (range_with_len (s + 1) n)
        → with_address a (filter f (range_with_len s (suc n))) ≡ filter (λ x. x == a || f x) (range_with_len s (suc n))
    later f a s n above rest =
        let other : (s == a) ≡ false = ne_eqb s a (λ e. omega arith) in
        rw other
        (elim (f s) as (λ b. with_address a (cond b (s ∷ filter f (range_with_len (s + 1) n)) (filter f (range_with_len (s + 1) n)))
        ≡ cond b (s ∷ filter (λ x. x == a || f x) (range_with_len (s + 1) n)) (filter (λ x. x == a || f x) (range_with_len (s + 1) n)))
        [ true ↦ with_address-high a s (filter f (range_with_len (s + 1) n)) above ∙ ap (λ xs. s ∷ xs) rest | false ↦ rest ])

pub with_address-addresses : (f : ℕ → Bool) (a : ℕ) → a < 127 → with_address a (filter f addresses) ≡ filter (λ x. x == a || f x) addresses
with_address-addresses f a fits =
    let run = addresses-run in
    rw run.2 (with_address-within f a 0 run.0 (omega arith) (omega (arith, run.1)))

-- ---- the front of a run

filter-none_within : (f : ℕ → Bool) (s n : ℕ) → ((x : ℕ) → s ≤ x → x < s + n → f x ≡ false) → filter f (range_with_len s n) ≡ []
filter-none_within f s zero none = refl
filter-none_within f s (suc n) none =
    let here : f s ≡ false = none s (omega arith) (omega arith) in
    rw here (filter-none_within f (s + 1) n (λ x low high. none x (omega arith) (omega arith)))

filter-front : (f : ℕ → Bool) (s j n : ℕ) → j ≤ n → filter (λ x. f x && nat_lt x (s + j)) (range_with_len s n) ≡ filter f (range_with_len s j)
filter-front f s zero n h = filter-none_within (λ x. f x && nat_lt x (s + 0)) s n (λ x low high. and_right (f x) (nat_lt x (s + 0)) (le-ltb x (s + 0) (omega arith)))
filter-front f s (suc j) zero h = absurd (omega arith)
filter-front f s (suc j) (suc n) h =
    let here : (f s && nat_lt s (s + suc j)) ≡ f s = and_holds (f s) (nat_lt s (s + suc j)) (lt-ltb s (s + suc j) (omega arith)) in
    let sum : s + suc j ≡ s + 1 + j = omega arith in
    let rest : filter (λ x. f x && nat_lt x (s + suc j)) (range_with_len (s + 1) n) ≡ filter f (range_with_len (s + 1) j) =
    subst (λ (e : ℕ). filter (λ x. f x && nat_lt x e) (range_with_len (s + 1) n) ≡ filter f (range_with_len (s + 1) j)) (sym sum) (filter-front f (s + 1) j n (omega arith)) in
    cc

pub filter-first : (f : ℕ → Bool) (a : ℕ) → a ≤ 127 → filter (λ x. f x && nat_lt x a) addresses ≡ filter f (range_with_len 0 a)
filter-first f a fits =
    let run = addresses-run in
    let sum : 0 + a ≡ a = omega arith in
    rw run.2 (subst (λ (e : ℕ). filter (λ x. f x && nat_lt x e) (range_with_len 0 run.0) ≡ filter f (range_with_len 0 a)) sum (filter-front f 0 a run.0 (omega (arith, run.1))))

pub filter-upto : (f : ℕ → Bool) (a : ℕ) → a < 127 → filter (λ x. f x && nat_le x a) addresses ≡ filter f (range_with_len 0 (a + 1))
filter-upto f a fits =
    filter-addresses (λ x. f x && nat_le x a) (λ x. f x && nat_lt x (a + 1)) (λ x h. ap (λ (b : Bool). f x && b) (same_test x a)) ∙ filter-first f (a + 1) (omega arith)
  where
    same_test : (x a : ℕ) → nat_le x a ≡ nat_lt x (a + 1)
    same_test x a = grind (arith, nat_tests)

-- the highest address leaves nothing out
pub upto-highest : (b : Bool) (x : ℕ) → x < 127 → (b && nat_le x 126) ≡ b
upto-highest b x low = and_holds b (nat_le x 126) (le-leb x 126 (omega arith))

-- ---- the first and the last of a filtered run

pub first_of-append : (xs ys : List ℕ) → first_of (xs ++ ys) ≡ option_or (first_of xs) (first_of ys)
first_of-append [] ys = refl
first_of-append (x ∷ xs) ys = refl

pub option_or-assoc : {X : Type 0} (a b c : Option X) → option_or (option_or a b) c ≡ option_or a (option_or b c)
option_or-assoc None b c = refl
option_or-assoc (Some x) b c = refl

pub option_or-none : {X : Type 0} (a : Option X) → a ≡ option_or a None
option_or-none None = refl
option_or-none (Some x) = refl

pub last_of-append : (xs ys : List ℕ) → last_of (xs ++ ys) ≡ option_or (last_of ys) (last_of xs)
last_of-append [] ys = option_or-none (last_of ys)
last_of-append (x ∷ xs) ys = ap (λ (o : Option ℕ). option_or o (Some x)) (last_of-append xs ys) ∙ option_or-assoc (last_of ys) (last_of xs) (Some x)

found-within : (f : ℕ → Bool) (s n a : ℕ) → s ≤ a → a < s + n → f a ≡ true → ((x : ℕ) → x < a → f x ≡ false) → first_of (filter f (range_with_len s n)) ≡ Some a
found-within f s zero a low high e none = absurd (omega arith)
found-within f s (suc n) a low high e none =
    elim (cases_eq s a) [
      | inl same ↦ (let here : f s ≡ true = ap f same ∙ e in rw here (ap (λ (x : ℕ). Some x) same))
      | inr other ↦ rw (none s (omega arith)) (found-within f (s + 1) n a (omega arith) (omega arith) e none)
    ]

pub lowest-found : (f : ℕ → Bool) (a : ℕ) → a < 127 → f a ≡ true → ((x : ℕ) → x < a → f x ≡ false) → first_of (filter f addresses) ≡ Some a
lowest-found f a fits e none =
    let run = addresses-run in
    rw run.2 (found-within f 0 run.0 a (omega arith) (omega (arith, run.1)) e none)

pub none-addresses : (f : ℕ → Bool) → ((x : ℕ) → f x ≡ false) → filter f addresses ≡ []
none-addresses f none =
    let run = addresses-run in
    rw run.2 (filter-none_within f 0 run.0 (λ x low high. none x))

pub lowest-none : (f : ℕ → Bool) → ((x : ℕ) → f x ≡ false) → first_of (filter f addresses) ≡ None
lowest-none f none = ap first_of (none-addresses f none)

pub highest-none : (f : ℕ → Bool) → ((x : ℕ) → f x ≡ false) → last_of (filter f addresses) ≡ None
highest-none f none = ap last_of (none-addresses f none)

last-within : (f : ℕ → Bool) (s n a : ℕ) → s ≤ a → a < s + n → f a ≡ true → ((x : ℕ) → a < x → f x ≡ false) → last_of (filter f (range_with_len s n)) ≡ Some a
last-within f s zero a low high e none = absurd (omega arith)
last-within f s (suc n) a low high e none =
    elim (cases_eq s a) [
      | inl same ↦ (let here : f s ≡ true = ap f same ∙ e in
          let rest : filter f (range_with_len (s + 1) n) ≡ [] = filter-none_within f (s + 1) n (λ x l h. none x (omega arith)) in
          rw (here, rest) (ap (λ (x : ℕ). Some x) same))
      | inr other ↦ (let rest : last_of (filter f (range_with_len (s + 1) n)) ≡ Some a = last-within f (s + 1) n a (omega arith) (omega arith) e none in
          cond_both (f s) (s ∷ filter f (range_with_len (s + 1) n)) (filter f (range_with_len (s + 1) n)) (λ xs. last_of xs ≡ Some a)
          (λ _. ap (λ (o : Option ℕ). option_or o (Some s)) rest) (λ _. rest))
    ]

pub highest-found : (f : ℕ → Bool) (a : ℕ) → a < 127 → f a ≡ true → ((x : ℕ) → a < x → f x ≡ false) → last_of (filter f addresses) ≡ Some a
highest-found f a fits e none =
    let run = addresses-run in
    rw run.2 (last-within f 0 run.0 a (omega arith) (omega (arith, run.1)) e none)

-- ---- equal sets

pub is_same-true : (xs ys : List ℕ) → is_same xs ys ≡ true → xs ≡ ys
is_same-true [] [] e = refl
is_same-true [] (y ∷ ys) e = absurd cc
is_same-true (x ∷ xs) [] e = absurd cc
is_same-true (x ∷ xs) (y ∷ ys) e =
    let both = and_parts (x == y) (is_same xs ys) e in
    let head : x ≡ y = eqb-true x y both.0 in
    let tail : xs ≡ ys = is_same-true xs ys both.1 in
    cc

pub is_same-refl : (xs : List ℕ) → is_same xs xs ≡ true
is_same-refl [] = refl
is_same-refl (x ∷ xs) = and_from (x == x) (is_same xs xs) (eq-eqb x x refl) (is_same-refl xs)
