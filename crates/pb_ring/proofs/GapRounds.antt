-- Rounds through the GAP.
use Rattle.std.proofs.Common.{inl, inr, Option, Some, None, ◌≡◌, ℕ, ◌+◌, ◌<◌, ◌≤◌, List, [], ◌∷◌, ◌++◌, Bool, true, false, ◌==◌, ◌&&◌, ◌||◌, refl, ap, sym, ◌∙◌, subst, arith, map, length, append_assoc}
use Rattle.std.specs.Prelude.{All, filter, get_or, nat_lt, nat_le, unwrap_or}
use Rattle.std.specs.List.{range_with_len}
use Rattle.std.proofs.lemmas.Bool.{cases_Bool, both_ways, and_parts, and_right, ltb-true, leb-true, eq-eqb, or_left, or_right}
use Rattle.std.proofs.lemmas.Bool.Decides.{nat_tests}
use Rattle.std.proofs.lemmas.List.Elements.{All-nil, All-cons, All-head, All-tail, All-append, All-weaker, filter-append}
use Rattle.pb_ring.specs.declared.gaps.Round.{Round}
use Rattle.pb_ring.specs.declared.gaps.Round.TheVariants.{Open, Closed}
use Rattle.pb_ring.specs.AddressSets.{is_member, is_between, from_behind, first_of, last_of, AscendsFrom, IsAscending}
use Rattle.pb_ring.specs.Gap.{gap_range, last_asked, left_to_ask, next_asked, round_after}
use Rattle.pb_ring.specs.Laws.{Look, Asks, Closes, look_of, asked_in_round, closed_at_end, round_with, round_of_looks, StandsForLooks, answers, round_at_end, InTurn}
use Rattle.pb_ring.proofs.SetLemmas.{last_of-append}
use Rattle.pb_ring.proofs.NeighbourLemmas.{ascends-run, ascends-filter, member-filter}

-- ---- a round stands for its looks

asked_in_round-more : (before : List ℕ) (looks : List Look) (a : ℕ) → asked_in_round before (looks ++ Asks a ∷ []) ≡ asked_in_round before looks ++ a ∷ []
asked_in_round-more before [] a = refl
asked_in_round-more before (Asks b ∷ looks) a = asked_in_round-more (before ++ b ∷ []) looks a
asked_in_round-more before (Closes at ∷ looks) a = asked_in_round-more [] looks a

closed_at_end-asks : (before : Option ℕ) (looks : List Look) (a : ℕ) → closed_at_end before (looks ++ Asks a ∷ []) ≡ None
closed_at_end-asks before [] a = refl
closed_at_end-asks before (Asks b ∷ looks) a = closed_at_end-asks None looks a
closed_at_end-asks before (Closes at ∷ looks) a = closed_at_end-asks (Some at) looks a

closed_at_end-closes : (before : Option ℕ) (looks : List Look) (at : ℕ) → closed_at_end before (looks ++ Closes at ∷ []) ≡ Some at
closed_at_end-closes before [] at = refl
closed_at_end-closes before (Asks b ∷ looks) at = closed_at_end-closes None looks at
closed_at_end-closes before (Closes m ∷ looks) at = closed_at_end-closes (Some m) looks at

pub look-more : (looks : List Look) (next : Option ℕ) (now : ℕ) → round_after next now ≡ round_of_looks (looks ++ look_of next now ∷ [])
look-more looks None now = sym (ap (λ (o : Option ℕ). round_with o (asked_in_round [] (looks ++ Closes now ∷ []))) (closed_at_end-closes None looks now))
look-more looks (Some a) now =
    sym (ap (λ (o : Option ℕ). round_with o (asked_in_round [] (looks ++ Asks a ∷ []))) (closed_at_end-asks None looks a)
    ∙ ap (λ (xs : List ℕ). Open (last_of xs)) (asked_in_round-more [] looks a) ∙ ap (λ (o : Option ℕ). Open o) (last_of-append (asked_in_round [] looks) (a ∷ [])))

pub stands_for-look : (round : Round) (looks : List Look) (ts ns hsa now : ℕ) → StandsForLooks round looks
    → StandsForLooks (round_after (next_asked ts ns hsa (last_asked round)) now) (looks ++ look_of (next_asked ts ns hsa (last_asked round)) now ∷ [])
stands_for-look round looks ts ns hsa now stands = look-more looks (next_asked ts ns hsa (last_asked round)) now

-- where the last look closed the round, nothing was asked since
closed-none : (at : ℕ) (before : List ℕ) (closed : Option ℕ) (looks : List Look) → (closed ≡ Some at → before ≡ []) → closed_at_end closed looks ≡ Some at → asked_in_round before looks ≡ []
closed-none at before closed [] h e = h e
closed-none at before closed (Asks a ∷ looks) h e = closed-none at (before ++ a ∷ []) None looks (λ f. absurd (let o : Option ℕ = None in cc)) e
closed-none at before closed (Closes m ∷ looks) h e = closed-none at [] (Some m) looks (λ f. refl) e

asked-by : (looks : List Look) (closed : Option ℕ) → closed_at_end None looks ≡ closed → last_asked (round_with closed (asked_in_round [] looks)) ≡ last_of (asked_in_round [] looks)
asked-by looks None e = refl
asked-by looks (Some at) e = sym (ap last_of (closed-none at [] None looks (λ f. refl) e))

pub asked-last : (round : Round) (looks : List Look) → StandsForLooks round looks → last_asked round ≡ last_of (asked_in_round [] looks)
asked-last round looks stands = ap last_asked stands ∙ asked-by looks (closed_at_end None looks) refl

-- ---- lists in cyclic order

all-at : (P : ℕ → Type 0) (xs : List ℕ) (a : ℕ) (ys : List ℕ) → All P (xs ++ a ∷ ys) → P a
all-at P [] a ys h = All-head P a ys h
all-at P (x ∷ xs) a ys h = all-at P xs a ys (All-tail P x (xs ++ a ∷ ys) h)

all-above : (low : ℕ) (xs : List ℕ) → AscendsFrom low xs → All (λ x. low ≤ x) xs
all-above low [] up = All-nil (λ x. low ≤ x)
all-above low (x ∷ xs) up =
    All-cons (λ y. low ≤ y) x xs up.0 (All-weaker (λ y. x + 1 ≤ y) (λ y. low ≤ y) (λ y h. omega (arith, up.0, h)) xs (all-above (x + 1) xs up.1))

all-kept : (p : ℕ → Bool) (P : ℕ → Type 0) (xs : List ℕ) → ((x : ℕ) → p x ≡ true → is_member xs x ≡ true → P x) → All P (filter p xs)
all-kept p P [] f = All-nil P
all-kept p P (x ∷ xs) f =
    let rest : All P (filter p xs) = all-kept p P xs (λ y pass in_it. f y pass (or_right (x == y) (is_member xs y) in_it)) in
    elim (cases_Bool (p x)) [
      | inl pass ↦ rw pass (All-cons P x (filter p xs) (f x pass (or_left (x == x) (is_member xs x) (eq-eqb x x refl))) rest)
      | inr fail ↦ rw fail rest
    ]

-- ---- the addresses of a GAP stand in turn

turn-up : (ts x y : ℕ) → ts < x → x + 1 ≤ y → (is_between x ts y ≡ true) × (is_between y ts x ≡ false)
turn-up ts x y h k = (up ts x y h k, down ts x y h k)
  where
    up : (ts x y : ℕ) → ts < x → x + 1 ≤ y → is_between x ts y ≡ true
    up ts x y h k = grind (arith, nat_tests)

    down : (ts x y : ℕ) → ts < x → x + 1 ≤ y → is_between y ts x ≡ false
    down ts x y h k = grind (arith, nat_tests)

turn-over : (ts x y : ℕ) → ts < x → y < ts → (is_between x ts y ≡ true) × (is_between y ts x ≡ false)
turn-over ts x y h k = (up ts x y h k, down ts x y h k)
  where
    up : (ts x y : ℕ) → ts < x → y < ts → is_between x ts y ≡ true
    up ts x y h k = grind (arith, nat_tests)

    down : (ts x y : ℕ) → ts < x → y < ts → is_between y ts x ≡ false
    down ts x y h k = grind (arith, nat_tests)

turn-low : (ts x y : ℕ) → x + 1 ≤ y → y < ts → (is_between x ts y ≡ true) × (is_between y ts x ≡ false)
turn-low ts x y h k = (up ts x y h k, down ts x y h k)
  where
    up : (ts x y : ℕ) → x + 1 ≤ y → y < ts → is_between x ts y ≡ true
    up ts x y h k = grind (arith, nat_tests)

    down : (ts x y : ℕ) → x + 1 ≤ y → y < ts → is_between y ts x ≡ false
    down ts x y h k = grind (arith, nat_tests)

in_turn-low : (ts low : ℕ) (xs : List ℕ) → AscendsFrom low xs → All (λ y. y < ts) xs → InTurn ts xs
in_turn-low ts low [] up below = tt
in_turn-low ts low (x ∷ xs) up below =
    let rest : All (λ y. y < ts) xs = All-tail (λ y. y < ts) x xs below in
    let above : All (λ y. x + 1 ≤ y) xs = all-above (x + 1) xs up.1 in
    (λ k d there. turn-low ts x (get_or xs k d) (above k d there) (rest k d there), in_turn-low ts (x + 1) xs up.1 rest)

in_turn-both : (ts low : ℕ) (xs ys : List ℕ) → ts < low → AscendsFrom low xs → All (λ y. y < ts) ys → InTurn ts ys → InTurn ts (xs ++ ys)
in_turn-both ts low [] ys above up below turn = turn
in_turn-both ts low (x ∷ xs) ys above up below turn =
    let high : ts < x = omega (arith, above, up.0) in (
      All-append (λ y. (is_between x ts y ≡ true) × (is_between y ts x ≡ false)) xs ys
          (All-weaker (λ y. x + 1 ≤ y) (λ y. (is_between x ts y ≡ true) × (is_between y ts x ≡ false)) (λ y h. turn-up ts x y high h) xs (all-above (x + 1) xs up.1))
          (All-weaker (λ y. y < ts) (λ y. (is_between x ts y ≡ true) × (is_between y ts x ≡ false)) (λ y h. turn-over ts x y high h) ys below),
      in_turn-both ts (x + 1) xs ys (omega (arith, high)) up.1 below turn,
    )

ascends-above : (ts low : ℕ) (xs : List ℕ) → AscendsFrom low xs → AscendsFrom (ts + 1) (filter (λ x. nat_lt ts x) xs)
ascends-above ts low [] up = tt
ascends-above ts low (x ∷ xs) up =
    elim (cases_Bool (nat_lt ts x)) [
      | inl above ↦ rw above (let here : ts + 1 ≤ x = (let more : ts < x = ltb-true ts x above in omega (arith, more)) in (here, ascends-filter (λ y. nat_lt ts y) (x + 1) xs up.1))
      | inr below ↦ rw below (ascends-above ts (x + 1) xs up.1)
    ]

pub in_turn : (ts : ℕ) (xs : List ℕ) → IsAscending xs → is_member xs ts ≡ false → InTurn ts (from_behind ts xs)
in_turn ts xs up out =
    let below : All (λ y. y < ts) (filter (λ x. nat_le x ts) xs) =
    all-kept (λ x. nat_le x ts) (λ y. y < ts) xs
    (λ x low in_it. let le : x ≤ ts = leb-true x ts low in let other : x ≡ ts → ⊥ = λ same. both_ways (is_member xs ts) out (ap (is_member xs) (sym same) ∙ in_it) in omega (arith, le, other)) in
    in_turn-both ts (ts + 1) (filter (λ x. nat_lt ts x) xs) (filter (λ x. nat_le x ts) xs) (omega arith) (ascends-above ts 0 xs up) below
    (in_turn-low ts 0 (filter (λ x. nat_le x ts) xs) (ascends-filter (λ x. nat_le x ts) 0 xs up) below)

-- ---- what is left of a list in turn

not_itself : (a ts : ℕ) → is_between a ts a ≡ false
not_itself a ts = grind (arith, nat_tests)

keep_all : (p : ℕ → Bool) (xs : List ℕ) → All (λ x. p x ≡ true) xs → filter p xs ≡ xs
keep_all p [] h = refl
keep_all p (x ∷ xs) h = let here : p x ≡ true = All-head (λ y. p y ≡ true) x xs h in rw here (ap (λ (ys : List ℕ). x ∷ ys) (keep_all p xs (All-tail (λ y. p y ≡ true) x xs h)))

pub left-behind : (ts a : ℕ) (done rest : List ℕ) → InTurn ts (done ++ a ∷ rest) → filter (λ x. is_between a ts x) (done ++ a ∷ rest) ≡ rest
left-behind ts a [] rest turn =
    let itself : is_between a ts a ≡ false = not_itself a ts in
    rw itself (keep_all (λ x. is_between a ts x) rest
    (All-weaker (λ y. (is_between a ts y ≡ true) × (is_between y ts a ≡ false)) (λ y. is_between a ts y ≡ true) (λ y h. h.0) rest turn.0))
left-behind ts a (x ∷ done) rest turn =
    let here : is_between a ts x ≡ false = (all-at (λ y. (is_between x ts y ≡ true) × (is_between y ts x ≡ false)) done a rest turn.0).1 in
    rw here (left-behind ts a done rest turn.1)

filter-swap : (f g : ℕ → Bool) (xs : List ℕ) → filter g (filter f xs) ≡ filter f (filter g xs)
filter-swap f g [] = refl
filter-swap f g (x ∷ xs) =
    let rest : filter g (filter f xs) ≡ filter f (filter g xs) = filter-swap f g xs in
    elim (cases_Bool (f x)) [
      | inl p ↦ (elim (cases_Bool (g x)) [ inl q ↦ rw (p, q) (rw p (ap (λ (ys : List ℕ). x ∷ ys) rest)) | inr q ↦ rw (p, q) rest ])
      | inr p ↦ (elim (cases_Bool (g x)) [ inl q ↦ rw (p, q) (rw p rest) | inr q ↦ rw (p, q) rest ])
    ]

from_behind-filter : (ts : ℕ) (q : ℕ → Bool) (xs : List ℕ) → from_behind ts (filter q xs) ≡ filter q (from_behind ts xs)
from_behind-filter ts q xs =
    ap (λ (ys : List ℕ). ys ++ filter (λ x. nat_le x ts) (filter q xs)) (filter-swap q (λ x. nat_lt ts x) xs)
    ∙ ap (λ (ys : List ℕ). filter q (filter (λ x. nat_lt ts x) xs) ++ ys) (filter-swap q (λ x. nat_le x ts) xs)
    ∙ sym (filter-append q (filter (λ x. nat_lt ts x) xs) (filter (λ x. nat_le x ts) xs))

-- ---- the same addresses

member-append : (xs ys : List ℕ) (a : ℕ) → is_member (xs ++ ys) a ≡ (is_member xs a || is_member ys a)
member-append [] ys a = refl
member-append (x ∷ xs) ys a = elim (x == a) as (λ b. (b || is_member (xs ++ ys) a) ≡ ((b || is_member xs a) || is_member ys a)) [ true ↦ refl | false ↦ member-append xs ys a ]

in_one : (m l e : Bool) → (l || e) ≡ true → ((m && l) || (m && e)) ≡ m
in_one true l e h = h
in_one false l e h = refl

above_or_not : (ts a : ℕ) → (nat_lt ts a || nat_le a ts) ≡ true
above_or_not ts a = grind (arith, nat_tests)

pub member-behind : (ts : ℕ) (xs : List ℕ) (a : ℕ) → is_member (from_behind ts xs) a ≡ is_member xs a
member-behind ts xs a =
    member-append (filter (λ x. nat_lt ts x) xs) (filter (λ x. nat_le x ts) xs) a
    ∙ ap (λ (b : Bool). b || is_member (filter (λ x. nat_le x ts) xs) a) (member-filter (λ x. nat_lt ts x) a xs)
    ∙ ap (λ (b : Bool). (is_member xs a && nat_lt ts a) || b) (member-filter (λ x. nat_le x ts) a xs)
    ∙ in_one (is_member xs a) (nat_lt ts a) (nat_le a ts) (above_or_not ts a)

pub member-first : (xs : List ℕ) (a : ℕ) → first_of xs ≡ Some a → is_member xs a ≡ true
member-first [] a e = absurd (let o : Option ℕ = None in cc)
member-first (x ∷ xs) a e = let same : x ≡ a = cc in or_left (x == a) (is_member xs a) (eq-eqb x a same)

pub asks-gap : (ts ns hsa a : ℕ) (asked : Option ℕ) → next_asked ts ns hsa asked ≡ Some a → is_member (gap_range ts ns hsa) a ≡ true
asks-gap ts ns hsa a asked e =
    (and_parts (is_member (gap_range ts ns hsa) a) (is_between (unwrap_or asked ts) ts a)
    (sym (member-filter (λ x. is_between (unwrap_or asked ts) ts x) a (gap_range ts ns hsa))
    ∙ sym (member-behind ts (left_to_ask ts ns hsa asked) a) ∙ member-first (from_behind ts (left_to_ask ts ns hsa asked)) a e)).0

-- ---- a GAP

others_between : (ts ns x : ℕ) → is_between ts ns x ≡ true → is_between ts ts x ≡ true
others_between ts ns x e = grind (arith, nat_tests)

gap-out : (ts ns hsa : ℕ) → is_member (gap_range ts ns hsa) ts ≡ false
gap-out ts ns hsa = member-filter (λ x. is_between ts ns x) ts (range_with_len 0 (hsa + 1)) ∙ and_right (is_member (range_with_len 0 (hsa + 1)) ts) (is_between ts ns ts) (not_itself ts ns)

pub gap-in_turn : (ts ns hsa : ℕ) → InTurn ts (from_behind ts (gap_range ts ns hsa))
gap-in_turn ts ns hsa = in_turn ts (gap_range ts ns hsa) (ascends-run (λ x. is_between ts ns x) 0 (hsa + 1)) (gap-out ts ns hsa)

next-first : (ts ns hsa : ℕ) → next_asked ts ns hsa None ≡ first_of (from_behind ts (gap_range ts ns hsa))
next-first ts ns hsa =
    ap (λ (xs : List ℕ). first_of (from_behind ts xs))
    (keep_all (λ x. is_between ts ts x) (gap_range ts ns hsa)
    (all-kept (λ x. is_between ts ns x) (λ x. is_between ts ts x ≡ true) (range_with_len 0 (hsa + 1)) (λ x pass in_it. others_between ts ns x pass)))

next-behind : (ts ns hsa a : ℕ) (done rest : List ℕ) → from_behind ts (gap_range ts ns hsa) ≡ done ++ a ∷ rest → next_asked ts ns hsa (Some a) ≡ first_of rest
next-behind ts ns hsa a done rest e =
    ap first_of
    (from_behind-filter ts (λ x. is_between a ts x) (gap_range ts ns hsa) ∙ ap (filter (λ x. is_between a ts x)) e
    ∙ left-behind ts a done rest (subst (InTurn ts) e (gap-in_turn ts ns hsa)))

-- ---- a round

no_more : (x : ℕ) (xs : List ℕ) → length (x ∷ xs) ≡ 0 → ⊥
no_more x xs e = omega arith

shorter : (x y : ℕ) (xs ys : List ℕ) → length (x ∷ xs) ≡ length (y ∷ ys) → length xs ≡ length ys
shorter x y xs ys e = omega arith

run-answers : (ts ns hsa now : ℕ) (done rest : List ℕ) (round : Round) (moments : List ℕ) → from_behind ts (gap_range ts ns hsa) ≡ done ++ rest
    → next_asked ts ns hsa (last_asked round) ≡ first_of rest → length moments ≡ length rest
    → answers ts ns hsa round (moments ++ now ∷ []) ≡ map Some rest ++ None ∷ []
run-answers ts ns hsa now done [] round [] order next same = ap (λ (o : Option ℕ). o ∷ []) next
run-answers ts ns hsa now done [] round (m ∷ ms) order next same = absurd (no_more m ms same)
run-answers ts ns hsa now done (a ∷ rest) round [] order next same = absurd (no_more a rest (sym same))
run-answers ts ns hsa now done (a ∷ rest) round (m ∷ ms) order next same =
    ap (λ (o : Option ℕ). o ∷ answers ts ns hsa (round_after o m) (ms ++ now ∷ [])) next
    ∙ ap (λ (os : List (Option ℕ)). Some a ∷ os)
    (run-answers ts ns hsa now (done ++ a ∷ []) rest (Open (Some a)) ms (order ∙ sym (append_assoc done (a ∷ []) rest)) (next-behind ts ns hsa a done rest order) (shorter m a ms rest same))

run-closes : (ts ns hsa now : ℕ) (done rest : List ℕ) (round : Round) (moments : List ℕ) → from_behind ts (gap_range ts ns hsa) ≡ done ++ rest
    → next_asked ts ns hsa (last_asked round) ≡ first_of rest → length moments ≡ length rest
    → round_at_end ts ns hsa round (moments ++ now ∷ []) ≡ Closed now
run-closes ts ns hsa now done [] round [] order next same = ap (λ (o : Option ℕ). round_after o now) next
run-closes ts ns hsa now done [] round (m ∷ ms) order next same = absurd (no_more m ms same)
run-closes ts ns hsa now done (a ∷ rest) round [] order next same = absurd (no_more a rest (sym same))
run-closes ts ns hsa now done (a ∷ rest) round (m ∷ ms) order next same =
    ap (λ (o : Option ℕ). round_at_end ts ns hsa (round_after o m) (ms ++ now ∷ [])) next
    ∙ run-closes ts ns hsa now (done ++ a ∷ []) rest (Open (Some a)) ms (order ∙ sym (append_assoc done (a ∷ []) rest)) (next-behind ts ns hsa a done rest order) (shorter m a ms rest same)

begins : (ts ns hsa : ℕ) (round : Round) → last_asked round ≡ None → next_asked ts ns hsa (last_asked round) ≡ first_of (from_behind ts (gap_range ts ns hsa))
begins ts ns hsa round e = ap (next_asked ts ns hsa) e ∙ next-first ts ns hsa

pub round-answers : (ts ns hsa now : ℕ) (round : Round) (moments : List ℕ) → last_asked round ≡ None → length moments ≡ length (from_behind ts (gap_range ts ns hsa))
    → answers ts ns hsa round (moments ++ now ∷ []) ≡ map Some (from_behind ts (gap_range ts ns hsa)) ++ None ∷ []
round-answers ts ns hsa now round moments fresh same =
    run-answers ts ns hsa now [] (from_behind ts (gap_range ts ns hsa)) round moments refl (begins ts ns hsa round fresh) same

pub round-closes : (ts ns hsa now : ℕ) (round : Round) (moments : List ℕ) → last_asked round ≡ None → length moments ≡ length (from_behind ts (gap_range ts ns hsa))
    → round_at_end ts ns hsa round (moments ++ now ∷ []) ≡ Closed now
round-closes ts ns hsa now round moments fresh same =
    run-closes ts ns hsa now [] (from_behind ts (gap_range ts ns hsa)) round moments refl (begins ts ns hsa round fresh) same
