-- Receipts round a ring: each station's last two, in the order of the ring from the station behind the one that had the
-- token last.
use Rattle.std.proofs.Common.{◌≡◌, ℕ, ◌+◌, ◌<◌, ◌≤◌, Bool, true, false, if◌then◌else◌, ◌==◌, ◌||◌, List, [], ◌∷◌, ◌++◌, length, filter, refl, sym, ap, ◌∙◌, subst, arith, Some}
use Rattle.std.specs.Prelude.{nat_lt, nat_le, unwrap_or}
use Rattle.std.proofs.lemmas.List.{length-append, append_assoc}
use Rattle.std.proofs.lemmas.Bool.{lt-ltb, le-ltb, le-leb, lt-leb, eqb-true, eq-eqb, ne_eqb}
use Rattle.pb_ring.specs.AddressSets.{AscendsFrom, IsAscending, is_member, from_behind, next_address, first_of}
use Rattle.law_rings.specs.Receipts.{ChainFrom}

-- ---- a set in the order of the ring

-- a member splits its set
pub record Splits (members : List ℕ) (a : ℕ) : Type 0 where
  pub low : List ℕ
  pub high : List ℕ
  pub is : members ≡ low ++ a ∷ high

-- at its place
pub splits : (members : List ℕ) (a : ℕ) → is_member members a ≡ true → Splits members a
splits [] a m = absurd (let w : false ≡ true = m in cc)
splits (x ∷ xs) a m = by (x == a) refl (λ i. splits xs a i)
  where
    by : (b : Bool) → (x == a) ≡ b → (is_member xs a ≡ true → Splits xs a) → Splits (x ∷ xs) a
    by true e rest = record { low = []; high = xs; is = ap (λ n. n ∷ xs) (eqb-true x a e) }
    by false e rest = let s = rest (subst (λ b. (b || is_member xs a) ≡ true) e m) in record { low = x ∷ s.low; high = s.high; is = ap (λ ys. x ∷ ys) s.is }

-- what is low is below it, and what is high above it
high_above : (low a : ℕ) (xs : List ℕ) → AscendsFrom low xs → a < low → filter (λ x. nat_lt a x) xs ≡ xs
high_above low a [] up lt = refl
high_above low a (x ∷ xs) up lt = ap (λ b. if b then x ∷ filter (λ x. nat_lt a x) xs else filter (λ x. nat_lt a x) xs) (lt-ltb a x (omega (arith, up.0, lt))) ∙ ap (λ ys. x ∷ ys) (high_above (x + 1) a xs up.1 (omega (arith, up.0, lt)))

-- none of those above is at or below
high_none : (low a : ℕ) (xs : List ℕ) → AscendsFrom low xs → a < low → filter (λ x. nat_le x a) xs ≡ []
high_none low a [] up lt = refl
high_none low a (x ∷ xs) up lt = ap (λ b. if b then x ∷ filter (λ x. nat_le x a) xs else filter (λ x. nat_le x a) xs) (lt-leb x a (omega (arith, up.0, lt))) ∙ high_none (x + 1) a xs up.1 (omega (arith, up.0, lt))

-- what stands before a member is below it
stands_below : (low a : ℕ) (xs ys : List ℕ) → AscendsFrom low (xs ++ a ∷ ys) → low ≤ a
stands_below low a [] ys up = up.0
stands_below low a (z ∷ zs) ys up = let h = stands_below (z + 1) a zs ys up.1 in omega (arith, h, up.0)

-- those above a member
above_split : (low a : ℕ) (xs ys : List ℕ) → AscendsFrom low (xs ++ a ∷ ys) → filter (λ x. nat_lt a x) (xs ++ a ∷ ys) ≡ ys
above_split low a [] ys up = ap (λ b. if b then a ∷ filter (λ x. nat_lt a x) ys else filter (λ x. nat_lt a x) ys) (le-ltb a a (omega arith)) ∙ high_above (a + 1) a ys up.1 (omega arith)
above_split low a (x ∷ xs) ys up =
    ap (λ b. if b then x ∷ filter (λ x. nat_lt a x) (xs ++ a ∷ ys) else filter (λ x. nat_lt a x) (xs ++ a ∷ ys)) (le-ltb a x (let h = stands_below (x + 1) a xs ys up.1 in omega (arith, h))) ∙ above_split (x + 1) a xs ys up.1

-- those at or below it
below_split : (low a : ℕ) (xs ys : List ℕ) → AscendsFrom low (xs ++ a ∷ ys) → filter (λ x. nat_le x a) (xs ++ a ∷ ys) ≡ xs ++ a ∷ []
below_split low a [] ys up = ap (λ b. if b then a ∷ filter (λ x. nat_le x a) ys else filter (λ x. nat_le x a) ys) (le-leb a a (omega arith)) ∙ ap (λ zs. a ∷ zs) (high_none (a + 1) a ys up.1 (omega arith))
below_split low a (x ∷ xs) ys up =
    ap (λ b. if b then x ∷ filter (λ x. nat_le x a) (xs ++ a ∷ ys) else filter (λ x. nat_le x a) (xs ++ a ∷ ys)) (le-leb x a (let h = stands_below (x + 1) a xs ys up.1 in omega (arith, h)))
    ∙ ap (λ zs. x ∷ zs) (below_split (x + 1) a xs ys up.1)

-- so the order from behind it is what is high, what is low, and itself
pub behind_split : (a : ℕ) (low high : List ℕ) → IsAscending (low ++ a ∷ high) → from_behind a (low ++ a ∷ high) ≡ high ++ (low ++ a ∷ [])
behind_split a low high up = ap (λ xs. xs ++ filter (λ x. nat_le x a) (low ++ a ∷ high)) (above_split 0 a low high up) ∙ ap (λ xs. high ++ xs) (below_split 0 a low high up)

-- ---- the next station is the first from behind

-- that list has a first and a last one
pub record Behind (members : List ℕ) (a : ℕ) : Type 0 where
  pub rest : List ℕ
  pub is : from_behind a members ≡ next_address a members ∷ rest

-- the first of a list
first_is : (xs : List ℕ) (x : ℕ) (ys : List ℕ) → xs ≡ x ∷ ys → first_of xs ≡ Some x
first_is xs x ys e = ap first_of e

-- where the list from behind has a first, that is the next one
next_first : (members : List ℕ) (a x : ℕ) (ys : List ℕ) → from_behind a members ≡ x ∷ ys → next_address a members ≡ x
next_first members a x ys e = ap (λ o. unwrap_or o a) (first_is (from_behind a members) x ys e)

-- by its place
pub behind : (members : List ℕ) (a : ℕ) → IsAscending members → is_member members a ≡ true → Behind members a
behind members a up m = by s.high s.low (ap (from_behind a) s.is ∙ behind_split a s.low s.high (subst IsAscending s.is up))
  where
    s : Splits members a
    s = splits members a m

    made : (x : ℕ) (ys : List ℕ) → from_behind a members ≡ x ∷ ys → Behind members a
    made x ys e = record { rest = ys; is = e ∙ ap (λ n. n ∷ ys) (sym (next_first members a x ys e)) }

    by : (high low : List ℕ) → from_behind a members ≡ high ++ (low ++ a ∷ []) → Behind members a
    by (x ∷ xs) low e = made x (xs ++ (low ++ a ∷ [])) e
    by [] (x ∷ xs) e = made x (xs ++ a ∷ []) e
    by [] [] e = made a [] e

-- ---- who stands in the order

-- who is in a list and another
in_append : (xs ys : List ℕ) (m : ℕ) → is_member (xs ++ ys) m ≡ (is_member xs m || is_member ys m)
in_append [] ys m = refl
in_append (x ∷ xs) ys m = ap (λ b. x == m || b) (in_append xs ys m) ∙ or_assoc (x == m) (is_member xs m) (is_member ys m)
  where
    or_assoc : (a b c : Bool) → (a || (b || c)) ≡ ((a || b) || c)
    or_assoc true b c = refl
    or_assoc false b c = refl

-- the same members as the set
pub in_behind : (members : List ℕ) (a m : ℕ) → IsAscending members → is_member members a ≡ true → is_member (from_behind a members) m ≡ is_member members m
in_behind members a m up has =
    ap (λ xs. is_member xs m) (ap (from_behind a) s.is ∙ behind_split a s.low s.high (subst IsAscending s.is up))
    ∙ in_append s.high (s.low ++ a ∷ []) m ∙ ap (λ b. is_member s.high m || b) (in_append s.low (a ∷ []) m)
    ∙ turned (is_member s.high m) (is_member s.low m) (a == m)
    ∙ sym (in_append s.low (a ∷ s.high) m) ∙ ap (λ xs. is_member xs m) (sym s.is)
  where
    s : Splits members a
    s = splits members a has

    turned : (h l e : Bool) → (h || (l || (e || false))) ≡ (l || (e || h))
    turned true true e = refl
    turned true false true = refl
    turned true false false = refl
    turned false true e = refl
    turned false false true = refl
    turned false false false = refl

-- and as many
pub long_behind : (members : List ℕ) (a : ℕ) → IsAscending members → is_member members a ≡ true → length (from_behind a members) ≡ length members
long_behind members a up has =
    let s = splits members a has in
    let e = ap length (ap (from_behind a) s.is ∙ behind_split a s.low s.high (subst IsAscending s.is up)) in
    let f = length-append s.high (s.low ++ a ∷ []) in
    let g = length-append s.low (a ∷ []) in
    let h = ap length s.is in
    let k = length-append s.low (a ∷ s.high) in
    let l : length (a ∷ s.high) ≡ length s.high + 1 = omega arith in
    let o : length (a ∷ []) ≡ 1 = refl in
    omega (arith, e, f, g, h, k, l, o)

-- a member stands once
above_absent : (low n : ℕ) (xs : List ℕ) → AscendsFrom low xs → n < low → is_member xs n ≡ false
above_absent low n [] up lt = refl
above_absent low n (x ∷ xs) up lt = ap (λ b. b || is_member xs n) (ne_eqb x n (λ e. omega (arith, e, up.0, lt))) ∙ above_absent (x + 1) n xs up.1 (omega (arith, up.0, lt))

-- a member is not above itself
high_absent : (low n : ℕ) (xs ys : List ℕ) → AscendsFrom low (xs ++ n ∷ ys) → is_member ys n ≡ false
high_absent low n [] ys up = above_absent (n + 1) n ys up.1 (omega arith)
high_absent low n (x ∷ xs) ys up = high_absent (x + 1) n xs ys up.1

-- nor below itself
low_absent : (low n : ℕ) (xs ys : List ℕ) → AscendsFrom low (xs ++ n ∷ ys) → is_member xs n ≡ false
low_absent low n [] ys up = refl
low_absent low n (x ∷ xs) ys up = ap (λ b. b || is_member xs n) (ne_eqb x n (λ e. let h = stands_below (x + 1) n xs ys up.1 in omega (arith, e, h))) ∙ low_absent (x + 1) n xs ys up.1

-- nor in both
absent_turned : (n : ℕ) (xs ys : List ℕ) → is_member xs n ≡ false → is_member ys n ≡ false → is_member (xs ++ ys) n ≡ false
absent_turned n xs ys e f = in_append xs ys n ∙ ap (λ b. b || is_member ys n) e ∙ f

-- ---- the order turns by one as the token goes on

-- from behind the next one it stands last, and nowhere else
pub record Turns (members : List ℕ) (a : ℕ) (b : Behind members a) : Type 0 where
  pub last : from_behind (next_address a members) members ≡ b.rest ++ next_address a members ∷ []
  pub once : is_member b.rest (next_address a members) ≡ false
  pub member : is_member members (next_address a members) ≡ true

-- by its place and that of the next one
pub turns : (members : List ℕ) (a : ℕ) (b : Behind members a) → IsAscending members → is_member members a ≡ true → Turns members a b
turns members a b up m = by s.high s.low refl refl
  where
    s : Splits members a
    s = splits members a m

    n : ℕ
    n = next_address a members

    up' : IsAscending (s.low ++ a ∷ s.high)
    up' = subst IsAscending s.is up

    order : from_behind a members ≡ s.high ++ (s.low ++ a ∷ [])
    order = ap (from_behind a) s.is ∙ behind_split a s.low s.high up'

    -- by what the list from behind is
    from : (x : ℕ) (ys : List ℕ) → from_behind a members ≡ x ∷ ys → from_behind x members ≡ ys ++ x ∷ [] → is_member ys x ≡ false → Turns members a b
    from x ys e h once =
        let both : n ∷ b.rest ≡ x ∷ ys = sym b.is ∙ e in
        let head : n ≡ x = cc in
        let tail : b.rest ≡ ys = cc in
        record {
          last = ap (λ z. from_behind z members) head ∙ h ∙ ap (λ z. z ++ x ∷ []) (sym tail) ∙ ap (λ z. b.rest ++ z ∷ []) (sym head);
          once = ap (λ z. is_member b.rest z) head ∙ ap (λ z. is_member z x) tail ∙ once;
          member = sym (in_behind members a n up m) ∙ ap (λ z. is_member z n) b.is ∙ ap (λ c. c || is_member b.rest n) (eq-eqb n n refl);
        }

    by : (high low : List ℕ) → s.high ≡ high → s.low ≡ low → Turns members a b
    by (x ∷ xs) low eh el =
        let whole : members ≡ (low ++ a ∷ []) ++ x ∷ xs = s.is ∙ ap (λ z. z ++ a ∷ s.high) el ∙ ap (λ z. low ++ a ∷ z) eh ∙ sym (append_assoc low (a ∷ []) (x ∷ xs)) in
        let asc = subst IsAscending whole up in
        from x (xs ++ (low ++ a ∷ [])) (order ∙ ap (λ z. z ++ (s.low ++ a ∷ [])) eh ∙ ap (λ z. (x ∷ xs) ++ (z ++ a ∷ [])) el)
        (ap (from_behind x) whole ∙ behind_split x (low ++ a ∷ []) xs asc ∙ sym (append_assoc xs (low ++ a ∷ []) (x ∷ [])))
        (absent_turned x xs (low ++ a ∷ []) (high_absent 0 x (low ++ a ∷ []) xs asc) (low_absent 0 x (low ++ a ∷ []) xs asc))
    by [] (x ∷ xs) eh el =
        let whole : members ≡ [] ++ x ∷ (xs ++ a ∷ []) = s.is ∙ ap (λ z. z ++ a ∷ s.high) el ∙ ap (λ z. (x ∷ xs) ++ a ∷ z) eh in
        let asc = subst IsAscending whole up in
        from x (xs ++ a ∷ []) (order ∙ ap (λ z. z ++ (s.low ++ a ∷ [])) eh ∙ ap (λ z. z ++ a ∷ []) el)
        (ap (from_behind x) whole ∙ behind_split x [] (xs ++ a ∷ []) asc) (high_absent 0 x [] (xs ++ a ∷ []) asc)
    by [] [] eh el =
        let whole : members ≡ [] ++ a ∷ [] = s.is ∙ ap (λ z. z ++ a ∷ s.high) el ∙ ap (λ z. a ∷ z) eh in
        from a [] (order ∙ ap (λ z. z ++ (s.low ++ a ∷ [])) eh ∙ ap (λ z. z ++ a ∷ []) el)
        (ap (from_behind a) whole ∙ behind_split a [] [] (subst IsAscending whole up)) refl

-- ---- chains

-- a list ends in an element
abbrev pub EndsIn : ℕ → ℕ → List ℕ → Type 0
EndsIn a x [] = x ≡ a
EndsIn a x (y ∷ ys) = EndsIn a y ys

-- a list that ends in an element
ends_append : (a x : ℕ) (xs zs : List ℕ) → x ∷ xs ≡ zs ++ a ∷ [] → EndsIn a x xs
ends_append a x [] [] e = let h : x ≡ a = cc in h
ends_append a x (y ∷ ys) [] e = absurd (let h : y ∷ ys ≡ [] = cc in let l : length (y ∷ ys) ≡ 0 = ap length h in omega (arith, l))
ends_append a x [] (z ∷ zs) e = absurd (let h : [] ≡ zs ++ a ∷ [] = cc in let l : 0 ≡ length (zs ++ a ∷ []) = ap length h in let k = length-append zs (a ∷ []) in let o : length (a ∷ []) ≡ 1 = refl in omega (arith, l, k, o))
ends_append a x (y ∷ ys) (z ∷ zs) e = ends_append a y ys zs (let h : y ∷ ys ≡ zs ++ a ∷ [] = cc in h)

-- the order from behind an address ends in it
pub ends_behind : (members : List ℕ) (a : ℕ) (b : Behind members a) → IsAscending members → is_member members a ≡ true → EndsIn a (next_address a members) b.rest
ends_behind members a b up m =
    let s = splits members a m in
    ends_append a (next_address a members) b.rest (s.high ++ s.low) (sym b.is ∙ ap (from_behind a) s.is ∙ behind_split a s.low s.high (subst IsAscending s.is up) ∙ sym (append_assoc s.high s.low (a ∷ [])))

-- one more at the end
pub chain_end : (P : ℕ → ℕ → Type 0) (a b x : ℕ) (xs : List ℕ) → ChainFrom P x xs → EndsIn a x xs → P a b → ChainFrom P x (xs ++ b ∷ [])
chain_end P a b x [] c e h = (subst (λ z. P z b) (sym e) h, tt)
chain_end P a b x (y ∷ ys) c e h = (c.0, chain_end P a b y ys c.1 e h)

-- another relation of elements that an address is not among
pub chain_map : (P Q : ℕ → ℕ → Type 0) (n x : ℕ) (xs : List ℕ) → ((y z : ℕ) → (y ≡ n → ⊥) → (z ≡ n → ⊥) → P y z → Q y z) → is_member (x ∷ xs) n ≡ false → ChainFrom P x xs → ChainFrom Q x xs
chain_map P Q n x [] f absent c = tt
chain_map P Q n x (y ∷ ys) f absent c =
    (f x y (not_head x (y ∷ ys) absent) (not_head y ys (later x (y ∷ ys) absent)) c.0, chain_map P Q n y ys f (later x (y ∷ ys) absent) c.1)
  where
    not_head : (x : ℕ) (xs : List ℕ) → is_member (x ∷ xs) n ≡ false → x ≡ n → ⊥
    not_head x xs e same = let w : true ≡ false = sym (ap (λ b. b || is_member xs n) (eq-eqb x n same)) ∙ e in cc

    later : (x : ℕ) (xs : List ℕ) → is_member (x ∷ xs) n ≡ false → is_member xs n ≡ false
    later x xs e = by (x == n) e
      where
        by : (b : Bool) → (b || is_member xs n) ≡ false → is_member xs n ≡ false
        by true e = absurd cc
        by false e = e
