-- Neighbours in a set of addresses.
use Rattle.std.proofs.Common.{inl, inr, suc, zero, Option, Some, None, ◌≡◌, ℕ, ◌+◌, ◌<◌, ◌≤◌, List, [], ◌∷◌, Bool, true, false, ◌==◌, ◌&&◌, ◌⊎◌, refl, ap, sym, ◌∙◌, subst, arith, cond}
use Rattle.std.specs.Prelude.{filter, nat_lt, nat_le, unwrap_or}
use Rattle.std.specs.List.{range_with_len}
use Rattle.std.specs.Option.{option_or}
use Rattle.std.proofs.lemmas.Bool.{cases_Bool, cases_lt, eq-eqb, eqb-true, ne_eqb, or_cases, or_left, or_right, both_ways, true≢false}
use Rattle.std.proofs.lemmas.Bool.Decides.{nat_tests}
use Rattle.pb_ring.specs.AddressSets.{addresses, is_member, is_between, first_of, last_of, next_address, previous_address, AscendsFrom, IsAscending}
use Rattle.pb_ring.specs.Las.{LasTable, members_of}
use Rattle.pb_ring.specs.LasList.{Item, Piece, without_retries, closed_pieces, first_repeated, stage_learnt, stage_of_list, StandsFor}
use Rattle.pb_ring.specs.SameWords.{addresses-run}
use Rattle.pb_ring.proofs.SetLemmas.{none-addresses, first_of-append, last_of-append}

-- ---- sets are in order

pub ascends-lower : (low high : ℕ) (xs : List ℕ) → low ≤ high → AscendsFrom high xs → AscendsFrom low xs
ascends-lower low high [] h up = tt
ascends-lower low high (x ∷ xs) h up = (omega (arith, up.0), up.1)

pub ascends-run : (f : ℕ → Bool) (s n : ℕ) → AscendsFrom s (filter f (range_with_len s n))
ascends-run f s zero = tt
ascends-run f s (suc n) =
    let rest : AscendsFrom (s + 1) (filter f (range_with_len (s + 1) n)) = ascends-run f (s + 1) n in
    elim (f s) as (λ b. AscendsFrom s (cond b (s ∷ filter f (range_with_len (s + 1) n)) (filter f (range_with_len (s + 1) n))))
    [ true ↦ (let here : s ≤ s = omega arith in (here, rest)) | false ↦ ascends-lower s (s + 1) (filter f (range_with_len (s + 1) n)) (omega arith) rest ]

pub ascends-filter : (f : ℕ → Bool) (low : ℕ) (xs : List ℕ) → AscendsFrom low xs → AscendsFrom low (filter f xs)
ascends-filter f low [] up = tt
ascends-filter f low (x ∷ xs) up =
    let rest : AscendsFrom (x + 1) (filter f xs) = ascends-filter f (x + 1) xs up.1 in
    elim (f x) as (λ b. AscendsFrom low (cond b (x ∷ filter f xs) (filter f xs)))
    [ true ↦ (up.0, rest) | false ↦ ascends-lower low (x + 1) (filter f xs) (omega (arith, up.0)) rest ]

pub ascends-addresses : (f : ℕ → Bool) → IsAscending (filter f addresses)
ascends-addresses f = let run = addresses-run in rw run.2 (ascends-run f 0 run.0)

-- ---- members

pub member-from : (low m : ℕ) (xs : List ℕ) → AscendsFrom low xs → is_member xs m ≡ true → low ≤ m
member-from low m [] up e = absurd (true≢false (sym e))
member-from low m (x ∷ xs) up e =
    elim (or_cases (x == m) (is_member xs m) e) [
      | inl same ↦ (let eq : x ≡ m = eqb-true x m same in omega (arith, up.0, eq))
      | inr later ↦ (let above : x + 1 ≤ m = member-from (x + 1) m xs up.1 later in omega (arith, up.0, above))
    ]

pub member-filter : (p : ℕ → Bool) (m : ℕ) (xs : List ℕ) → is_member (filter p xs) m ≡ (is_member xs m && p m)
member-filter p m [] = refl
member-filter p m (x ∷ xs) =
    elim (cases_Bool (p x)) [
      | inl pass ↦ rw pass (elim (cases_Bool (x == m)) [
        | inl same ↦ (let here : p m ≡ true = ap p (sym (eqb-true x m same)) ∙ pass in rw same (sym here))
        | inr other ↦ rw other (member-filter p m xs)
      ])
      | inr fail ↦ rw fail (elim (cases_Bool (x == m)) [
        | inl same ↦ (let here : p m ≡ false = ap p (sym (eqb-true x m same)) ∙ fail in rw same (member-filter p m xs ∙ ap (λ (b : Bool). is_member xs m && b) here ∙ none (is_member xs m) ∙ sym here))
        | inr other ↦ rw other (member-filter p m xs)
      ])
    ]
  where
    none : (b : Bool) → (b && false) ≡ false
    none true = refl
    none false = refl

member-beyond : (f : ℕ → Bool) (s n a : ℕ) → s + n ≤ a → is_member (filter f (range_with_len s n)) a ≡ false
member-beyond f s zero a h = refl
member-beyond f s (suc n) a h =
    let other : (s == a) ≡ false = ne_eqb s a (λ e. omega arith) in
    let rest : is_member (filter f (range_with_len (s + 1) n)) a ≡ false = member-beyond f (s + 1) n a (omega arith) in
    elim (f s) as (λ b. is_member (cond b (s ∷ filter f (range_with_len (s + 1) n)) (filter f (range_with_len (s + 1) n))) a ≡ false)
    [ true ↦ rw other rest | false ↦ rest ]

pub member-run : (f : ℕ → Bool) (s n a : ℕ) → is_member (filter f (range_with_len s n)) a ≡ true → a < s + n
member-run f s n a e =
    elim (cases_lt a (s + n)) [ inl below ↦ below | inr beyond ↦ absurd (both_ways (is_member (filter f (range_with_len s n)) a) (member-beyond f s n a beyond) e) ]

member-addresses : (f : ℕ → Bool) (a : ℕ) → is_member (filter f addresses) a ≡ true → a < 127
member-addresses f a e =
    let run = addresses-run in
    let within : a < 0 + run.0 = member-run f 0 run.0 a (subst (λ (xs : List ℕ). is_member (filter f xs) a ≡ true) run.2 e) in
    omega (arith, within, run.1)

-- ---- the first and the last that pass a test

pub record IsLeast (p : ℕ → Bool) (xs : List ℕ) (n : ℕ) : Type 0 where
  pub holds : p n ≡ true
  pub member : is_member xs n ≡ true
  pub least : (m : ℕ) → is_member xs m ≡ true → p m ≡ true → n ≤ m

pub record IsGreatest (p : ℕ → Bool) (xs : List ℕ) (n : ℕ) : Type 0 where
  pub holds : p n ≡ true
  pub member : is_member xs n ≡ true
  pub greatest : (m : ℕ) → is_member xs m ≡ true → p m ≡ true → m ≤ n

same_some : (x n : ℕ) → (let o : Option ℕ = Some x in o) ≡ Some n → x ≡ n
same_some x n e = cc

none_is_some : (n : ℕ) → (let o : Option ℕ = None in o) ≡ Some n → ⊥
none_is_some n e = cc

some_is_none : (n : ℕ) → (let o : Option ℕ = Some n in o) ≡ None → ⊥
some_is_none n e = cc

pub first-least : (p : ℕ → Bool) (low : ℕ) (xs : List ℕ) (n : ℕ) → AscendsFrom low xs → first_of (filter p xs) ≡ Some n → IsLeast p xs n
first-least p low [] n up e = absurd (none_is_some n e)
first-least p low (x ∷ xs) n up e =
    elim (cases_Bool (p x)) [
      | inl pass ↦ (let same : x ≡ n = same_some x n (sym (ap (λ (b : Bool). first_of (cond b (x ∷ filter p xs) (filter p xs))) pass) ∙ e) in
          record {
            holds = ap p (sym same) ∙ pass;
            member = or_left (x == n) (is_member xs n) (eq-eqb x n same);
            least = λ m in_it passes. elim (or_cases (x == m) (is_member xs m) in_it) [
              | inl here ↦ (let eq : x ≡ m = eqb-true x m here in omega (arith, eq, same))
              | inr later ↦ (let above : x + 1 ≤ m = member-from (x + 1) m xs up.1 later in omega (arith, same, above))
            ];
          })
      | inr fail ↦ (let rest : IsLeast p xs n = first-least p (x + 1) xs n up.1 (sym (ap (λ (b : Bool). first_of (cond b (x ∷ filter p xs) (filter p xs))) fail) ∙ e) in
          record {
            holds = rest.holds;
            member = or_right (x == n) (is_member xs n) rest.member;
            least = λ m in_it passes. elim (or_cases (x == m) (is_member xs m) in_it) [
              | inl here ↦ absurd (both_ways (p m) (ap p (sym (eqb-true x m here)) ∙ fail) passes)
              | inr later ↦ rest.least m later passes
            ];
          })
    ]

pub first-none : (p : ℕ → Bool) (xs : List ℕ) (m : ℕ) → first_of (filter p xs) ≡ None → is_member xs m ≡ true → p m ≡ false
first-none p [] m e in_it = absurd (true≢false (sym in_it))
first-none p (x ∷ xs) m e in_it =
    elim (cases_Bool (p x)) [
      | inl pass ↦ absurd (some_is_none x (sym (ap (λ (b : Bool). first_of (cond b (x ∷ filter p xs) (filter p xs))) pass) ∙ e))
      | inr fail ↦ (elim (or_cases (x == m) (is_member xs m) in_it) [
        | inl here ↦ ap p (sym (eqb-true x m here)) ∙ fail
        | inr later ↦ first-none p xs m (sym (ap (λ (b : Bool). first_of (cond b (x ∷ filter p xs) (filter p xs))) fail) ∙ e) later
      ])
    ]

last-cases : (o : Option ℕ) (x n : ℕ) → option_or o (Some x) ≡ Some n → (o ≡ Some n) ⊎ ((o ≡ None) × (x ≡ n))
last-cases None x n e = inr (refl, same_some x n e)
last-cases (Some y) x n e = inl e

pub last-none : (p : ℕ → Bool) (xs : List ℕ) (m : ℕ) → last_of (filter p xs) ≡ None → is_member xs m ≡ true → p m ≡ false
last-none p [] m e in_it = absurd (true≢false (sym in_it))
last-none p (x ∷ xs) m e in_it =
    elim (cases_Bool (p x)) [
      | inl pass ↦ absurd (never (last_of (filter p xs)) x (sym (ap (λ (b : Bool). last_of (cond b (x ∷ filter p xs) (filter p xs))) pass) ∙ e))
      | inr fail ↦ (elim (or_cases (x == m) (is_member xs m) in_it) [
        | inl here ↦ ap p (sym (eqb-true x m here)) ∙ fail
        | inr later ↦ last-none p xs m (sym (ap (λ (b : Bool). last_of (cond b (x ∷ filter p xs) (filter p xs))) fail) ∙ e) later
      ])
    ]
  where
    never : (o : Option ℕ) (x : ℕ) → option_or o (Some x) ≡ None → ⊥
    never None x e = some_is_none x e
    never (Some y) x e = some_is_none y e

pub last-greatest : (p : ℕ → Bool) (low : ℕ) (xs : List ℕ) (n : ℕ) → AscendsFrom low xs → last_of (filter p xs) ≡ Some n → IsGreatest p xs n
last-greatest p low [] n up e = absurd (none_is_some n e)
last-greatest p low (x ∷ xs) n up e =
    elim (cases_Bool (p x)) [
      | inl pass ↦ (elim (last-cases (last_of (filter p xs)) x n (sym (ap (λ (b : Bool). last_of (cond b (x ∷ filter p xs) (filter p xs))) pass) ∙ e)) [
        | inl rest_has ↦ go_on (last-greatest p (x + 1) xs n up.1 rest_has)
        | inr here_is ↦ record {
          holds = ap p (sym here_is.1) ∙ pass;
          member = or_left (x == n) (is_member xs n) (eq-eqb x n here_is.1);
          greatest = λ m in_it passes. elim (or_cases (x == m) (is_member xs m) in_it) [
            | inl here ↦ (let eq : x ≡ m = eqb-true x m here in let same : x ≡ n = here_is.1 in omega (arith, eq, same))
            | inr later ↦ absurd (both_ways (p m) (last-none p xs m here_is.0 later) passes)
          ];
        }
      ])
      | inr fail ↦ go_on (last-greatest p (x + 1) xs n up.1 (sym (ap (λ (b : Bool). last_of (cond b (x ∷ filter p xs) (filter p xs))) fail) ∙ e))
    ]
  where
    go_on : IsGreatest p xs n → IsGreatest p (x ∷ xs) n
    go_on rest =
        record {
          holds = rest.holds;
          member = or_right (x == n) (is_member xs n) rest.member;
          greatest = λ m in_it passes. elim (or_cases (x == m) (is_member xs m) in_it) [
            | inl here ↦ (let eq : x ≡ m = eqb-true x m here in let above : x + 1 ≤ n = member-from (x + 1) n xs up.1 rest.member in omega (arith, eq, above))
            | inr later ↦ rest.greatest m later passes
          ];
        }

-- ---- the next and the previous one

-- A neighbour: a member such that no member lies strictly between.
pub record IsNext (xs : List ℕ) (a n : ℕ) : Type 0 where
  pub member : is_member xs n ≡ true
  pub nearest : (m : ℕ) → is_member xs m ≡ true → is_between a n m ≡ false

pub record IsPrevious (xs : List ℕ) (a n : ℕ) : Type 0 where
  pub member : is_member xs n ≡ true
  pub nearest : (m : ℕ) → is_member xs m ≡ true → is_between n a m ≡ false

not_above : (a m : ℕ) → nat_lt a m ≡ false → nat_le m a ≡ true
not_above a m e = grind (arith, nat_tests)

apart-above : (a n m : ℕ) → nat_lt a n ≡ true → (nat_lt a m ≡ true → n ≤ m) → is_between a n m ≡ false
apart-above a n m above least =
    elim (cases_Bool (nat_lt a m)) [ inl up ↦ apart a n m (least up) above up | inr down ↦ low a n m above down ]
  where
    apart : (a n m : ℕ) → n ≤ m → nat_lt a n ≡ true → nat_lt a m ≡ true → is_between a n m ≡ false
    apart a n m h above up = grind (arith, nat_tests)

    low : (a n m : ℕ) → nat_lt a n ≡ true → nat_lt a m ≡ false → is_between a n m ≡ false
    low a n m above down = grind (arith, nat_tests)

apart-wrapped : (a n m : ℕ) → nat_le n a ≡ true → nat_lt a m ≡ false → n ≤ m → is_between a n m ≡ false
apart-wrapped a n m low below least = grind (arith, nat_tests)

next-by : (xs : List ℕ) (a t : ℕ) (above below : Option ℕ) → IsAscending xs → is_member xs t ≡ true
    → first_of (filter (λ x. nat_lt a x) xs) ≡ above → first_of (filter (λ x. nat_le x a) xs) ≡ below → IsNext xs a (unwrap_or (option_or above below) a)
next-by xs a t (Some n) below up in_it e f =
    let least : IsLeast (λ x. nat_lt a x) xs n = first-least (λ x. nat_lt a x) 0 xs n up e in
    record { member = least.member; nearest = λ m in_m. apart-above a n m least.holds (least.least m in_m) }
next-by xs a t None (Some n) up in_it e f =
    let least : IsLeast (λ x. nat_le x a) xs n = first-least (λ x. nat_le x a) 0 xs n up f in
    record {
      member = least.member;
      nearest = λ m in_m. let below : nat_lt a m ≡ false = first-none (λ x. nat_lt a x) xs m e in_m in
          apart-wrapped a n m least.holds below (least.least m in_m (not_above a m below));
    }
next-by xs a t None None up in_it e f =
    let below : nat_lt a t ≡ false = first-none (λ x. nat_lt a x) xs t e in_it in
    absurd (both_ways (nat_le t a) (first-none (λ x. nat_le x a) xs t f in_it) (not_above a t below))

pub next-is : (xs : List ℕ) (a t : ℕ) → IsAscending xs → is_member xs t ≡ true → IsNext xs a (next_address a xs)
next-is xs a t up in_it =
    subst (λ (o : Option ℕ). IsNext xs a (unwrap_or o a)) (sym (first_of-append (filter (λ x. nat_lt a x) xs) (filter (λ x. nat_le x a) xs)))
    (next-by xs a t (first_of (filter (λ x. nat_lt a x) xs)) (first_of (filter (λ x. nat_le x a) xs)) up in_it refl refl)

not_below : (a m : ℕ) → nat_lt m a ≡ false → nat_le a m ≡ true
not_below a m e = grind (arith, nat_tests)

apart-below : (a n m : ℕ) → nat_lt n a ≡ true → (nat_lt m a ≡ true → m ≤ n) → is_between n a m ≡ false
apart-below a n m below greatest =
    elim (cases_Bool (nat_lt m a)) [ inl down ↦ apart a n m (greatest down) below down | inr up ↦ high a n m below up ]
  where
    apart : (a n m : ℕ) → m ≤ n → nat_lt n a ≡ true → nat_lt m a ≡ true → is_between n a m ≡ false
    apart a n m h below down = grind (arith, nat_tests)

    high : (a n m : ℕ) → nat_lt n a ≡ true → nat_lt m a ≡ false → is_between n a m ≡ false
    high a n m below up = grind (arith, nat_tests)

apart-around : (a n m : ℕ) → nat_le a n ≡ true → nat_lt m a ≡ false → m ≤ n → is_between n a m ≡ false
apart-around a n m high above greatest = grind (arith, nat_tests)

previous-by : (xs : List ℕ) (a t : ℕ) (below above : Option ℕ) → IsAscending xs → is_member xs t ≡ true
    → last_of (filter (λ x. nat_lt x a) xs) ≡ below → last_of (filter (λ x. nat_le a x) xs) ≡ above → IsPrevious xs a (unwrap_or (option_or below above) a)
previous-by xs a t (Some n) above up in_it e f =
    let greatest : IsGreatest (λ x. nat_lt x a) xs n = last-greatest (λ x. nat_lt x a) 0 xs n up e in
    record { member = greatest.member; nearest = λ m in_m. apart-below a n m greatest.holds (greatest.greatest m in_m) }
previous-by xs a t None (Some n) up in_it e f =
    let greatest : IsGreatest (λ x. nat_le a x) xs n = last-greatest (λ x. nat_le a x) 0 xs n up f in
    record {
      member = greatest.member;
      nearest = λ m in_m. let above : nat_lt m a ≡ false = last-none (λ x. nat_lt x a) xs m e in_m in
          apart-around a n m greatest.holds above (greatest.greatest m in_m (not_below a m above));
    }
previous-by xs a t None None up in_it e f =
    let above : nat_lt t a ≡ false = last-none (λ x. nat_lt x a) xs t e in_it in
    absurd (both_ways (nat_le a t) (last-none (λ x. nat_le a x) xs t f in_it) (not_below a t above))

pub previous-is : (xs : List ℕ) (a t : ℕ) → IsAscending xs → is_member xs t ≡ true → IsPrevious xs a (previous_address a xs)
previous-is xs a t up in_it =
    subst (λ (o : Option ℕ). IsPrevious xs a (unwrap_or o a)) (sym (last_of-append (filter (λ x. nat_le a x) xs) (filter (λ x. nat_lt x a) xs)))
    (previous-by xs a t (last_of (filter (λ x. nat_lt x a) xs)) (last_of (filter (λ x. nat_le a x) xs)) up in_it refl refl)

-- ---- inverses

-- two addresses with the same one behind both, none of the two between the other and it, are equal
same_before : (a b n : ℕ) → is_between a n b ≡ false → is_between b n a ≡ false → a ≡ b
same_before a b n e f = grind (arith, nat_tests)

same_behind : (a b p : ℕ) → is_between p a b ≡ false → is_between p b a ≡ false → a ≡ b
same_behind a b p e f = grind (arith, nat_tests)

pub previous-next : (xs : List ℕ) (ts : ℕ) → IsAscending xs → is_member xs ts ≡ true → previous_address (next_address ts xs) xs ≡ ts
previous-next xs ts up in_it =
    let next : IsNext xs ts (next_address ts xs) = next-is xs ts ts up in_it in
    let back : IsPrevious xs (next_address ts xs) (previous_address (next_address ts xs) xs) = previous-is xs (next_address ts xs) ts up in_it in
    same_before (previous_address (next_address ts xs) xs) ts (next_address ts xs) (back.nearest ts in_it) (next.nearest (previous_address (next_address ts xs) xs) back.member)

pub next-previous : (xs : List ℕ) (ts : ℕ) → IsAscending xs → is_member xs ts ≡ true → next_address (previous_address ts xs) xs ≡ ts
next-previous xs ts up in_it =
    let previous : IsPrevious xs ts (previous_address ts xs) = previous-is xs ts ts up in_it in
    let forth : IsNext xs (previous_address ts xs) (next_address (previous_address ts xs) xs) = next-is xs (previous_address ts xs) ts up in_it in
    same_behind (next_address (previous_address ts xs) xs) ts (previous_address ts xs) (forth.nearest ts in_it) (previous.nearest (next_address (previous_address ts xs) xs) forth.member)

-- ---- the members of a list

members-learnt : (is : List Item) (o : Option Piece) → (f : ℕ → Bool) × (members_of (stage_learnt is o) ≡ filter f addresses)
members-learnt is None = (λ a. false, sym (none-addresses (λ a. false) (λ a. refl)))
members-learnt is (Some piece) = (_, refl)

members-of_list : (claim : Option ℕ) (is : List Item) → (f : ℕ → Bool) × (members_of (stage_of_list claim is) ≡ filter f addresses)
members-of_list None is = members-learnt is (first_repeated None (closed_pieces [] is))
members-of_list (Some ts) is = (_, refl)

pub members-ascend : (t : LasTable) (claim : Option ℕ) (is : List Item) → StandsFor t claim is → IsAscending (members_of t.stage)
members-ascend t claim is stands =
    let kept = members-of_list claim (without_retries None is) in
    subst IsAscending (sym (ap (λ (x : LasTable). members_of x.stage) stands ∙ kept.1)) (ascends-addresses kept.0)

pub members-stations : (t : LasTable) (claim : Option ℕ) (is : List Item) (a : ℕ) → StandsFor t claim is → is_member (members_of t.stage) a ≡ true → a < 127
members-stations t claim is a stands in_it =
    let kept = members-of_list claim (without_retries None is) in
    member-addresses kept.0 a (subst (λ (xs : List ℕ). is_member xs a ≡ true) (ap (λ (x : LasTable). members_of x.stage) stands ∙ kept.1) in_it)
