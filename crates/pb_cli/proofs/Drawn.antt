-- The bursts of a picture, one by one.
use Rattle.std.proofs.Common.{◌≡◌, ◌≤◌, ◌<◌, ◌∙◌, ap, sym, refl, arith, ℕ, zero, suc, ◌+◌, ◌-◌, ◌^◌, Bool, true, false, List, [], ◌∷◌, ◌++◌, length, take, length-append}
use Rattle.std.specs.Prelude.{◌&&◌, nat_lt, min, if◌then◌else◌}
use Rattle.std.specs.List.{filter}
use Rattle.std.proofs.lemmas.Bool.{ltb-true, ltb-false}
use Rattle.std.proofs.lemmas.List.{append-nil, length-take, take_all, take-append-le}
use Rattle.std.proofs.lemmas.List.Elements.{filter-append}
use Rattle.pb_monitor.specs.declared.heard_bursts.HeardBurst.{HeardBurst}
use Rattle.pb_cli.specs.declared.drawing.Drawing.{Drawing}
use Rattle.pb_cli.specs.Drawing.{IsOf, drawn, has_room, if_room, in_reach, is_in_reach, is_within, left_out_after}

-- ---- in reach

reach_more : (bs : List HeardBurst) (b : HeardBurst) → in_reach (bs ++ b ∷ []) ≡ in_reach bs ++ (if is_in_reach (in_reach bs) b then b ∷ [] else [])
reach_more [] b = refl
reach_more (c ∷ bs) b = by (reach_more bs b) (is_within c.begin c)
  where
    by : in_reach (bs ++ b ∷ []) ≡ in_reach bs ++ (if is_in_reach (in_reach bs) b then b ∷ [] else []) → (t : Bool)
        → (if t then c ∷ filter (is_within c.begin) (bs ++ b ∷ []) else in_reach (bs ++ b ∷ []))
        ≡ (if t then c ∷ filter (is_within c.begin) bs else in_reach bs) ++ (if is_in_reach (if t then c ∷ filter (is_within c.begin) bs else in_reach bs) b then b ∷ [] else [])
    by rest true = ap (λ (z : List HeardBurst). c ∷ z) (filter-append (is_within c.begin) bs (b ∷ []))
    by rest false = rest

one_if : (t : Bool) (b : HeardBurst) (xs ys bs : List HeardBurst) → length xs ≤ length bs → length ys ≤ length bs → length (if t then b ∷ xs else ys) ≤ suc (length bs)
one_if true b xs ys bs few less = omega (arith, few)
one_if false b xs ys bs few less = omega (arith, less)

filtered : (p : HeardBurst → Bool) (bs : List HeardBurst) → length (filter p bs) ≤ length bs
filtered p [] = omega arith
filtered p (b ∷ bs) = one_if (p b) b (filter p bs) (filter p bs) bs (filtered p bs) (filtered p bs)

reached : (bs : List HeardBurst) → length (in_reach bs) ≤ length bs
reached [] = omega arith
reached (b ∷ bs) = one_if (is_within b.begin b) b (filter (is_within b.begin) bs) (in_reach bs) bs (filtered (is_within b.begin) bs) (reached bs)

-- ---- the first ones

-- a front, and one more at most
take_one : {X : Type 0} (n : ℕ) (xs r : List X) → length r ≤ 1 → take n (xs ++ r) ≡ take n xs ++ (if nat_lt (length (take n xs)) n then r else [])
take_one n xs r few = by (nat_lt (length (take n xs)) n) refl
  where
    by : (t : Bool) → nat_lt (length (take n xs)) n ≡ t → take n (xs ++ r) ≡ take n xs ++ (if t then r else [])
    by true e =
        let less = ltb-true (length (take n xs)) n e in
        let long = length-take n xs in
        let whole = length-append xs r in
        take_all n (xs ++ r) (omega (arith, less, long, whole, few)) ∙ ap (λ z. z ++ r) (sym (take_all n xs (omega (arith, less, long))))
    by false e =
        let less = ltb-false (length (take n xs)) n e in
        let long = length-take n xs in
        take-append-le n xs r (omega (arith, less, long)) ∙ sym (append-nil (take n xs))

same_first : (n : ℕ) (xs : List HeardBurst) (b : HeardBurst) → 0 < n → is_in_reach (take n xs) b ≡ is_in_reach xs b
same_first zero xs b some = absurd (omega (arith, some))
same_first (suc n) [] b some = refl
same_first (suc n) (x ∷ xs) b some = refl

few_next : (t : Bool) (b : HeardBurst) → length (if t then b ∷ [] else []) ≤ 1
few_next true b = omega arith
few_next false b = omega arith

both : {X : Type 0} (p q : Bool) (r : List X) → (if p then if q then r else [] else []) ≡ (if p && q then r else [])
both true q r = refl
both false q r = refl

pub drawn_more : (bs : List HeardBurst) (b : HeardBurst) → drawn (bs ++ b ∷ []) ≡ drawn bs ++ if_room (drawn bs) b
drawn_more bs b =
    let xs = in_reach bs in
    ap (take 10000) (reach_more bs b)
    ∙ take_one 10000 xs (if is_in_reach xs b then b ∷ [] else []) (few_next (is_in_reach xs b) b)
    ∙ ap (λ (t : Bool). take 10000 xs ++ (if nat_lt (length (take 10000 xs)) 10000 then if t then b ∷ [] else [] else [])) (sym (same_first 10000 xs b (omega arith)))
    ∙ ap (λ (z : List HeardBurst). take 10000 xs ++ z) (both (nat_lt (length (take 10000 xs)) 10000) (is_in_reach (take 10000 xs) b) (b ∷ []))

few_drawn : (bs : List HeardBurst) → length (drawn bs) ≤ length bs
few_drawn bs =
    let front = length-take 10000 (in_reach bs) in
    let all = reached bs in
    omega (arith, front, all)

-- ---- a drawing

left_more : (n : ℕ) (bs : List HeardBurst) (b : HeardBurst) → n ≡ min (length bs - length (drawn bs)) (2 ^ 64 - 1)
    → left_out_after n (drawn bs) b ≡ min (length (bs ++ b ∷ []) - length (drawn (bs ++ b ∷ []))) (2 ^ 64 - 1)
left_more n bs b so_far =
    by (has_room (drawn bs) b) ∙ ap (λ (xs : List HeardBurst). min (length (bs ++ b ∷ []) - length xs) (2 ^ 64 - 1)) (sym (drawn_more bs b))
  where
    by : (t : Bool) → (if t then n else min (n + 1) (2 ^ 64 - 1)) ≡ min (length (bs ++ b ∷ []) - length (drawn bs ++ (if t then b ∷ [] else []))) (2 ^ 64 - 1)
    by true =
        let all = length-append bs (b ∷ []) in
        let those = length-append (drawn bs) (b ∷ []) in
        omega (arith, so_far, all, those)
    by false =
        let all = length-append bs (b ∷ []) in
        let none : List HeardBurst = [] in
        let those = length-append (drawn bs) none in
        let few = few_drawn bs in
        omega (arith, so_far, all, those, few)

pub one_more : (old new : Drawing) (bs : List HeardBurst) (b : HeardBurst) → new.bursts.items ≡ old.bursts.items ++ if_room old.bursts.items b
    → new.left_out ≡ left_out_after old.left_out old.bursts.items b → IsOf old bs → IsOf new (bs ++ b ∷ [])
one_more old new bs b more left is =
    record {
      bursts = more ∙ ap (λ (xs : List HeardBurst). xs ++ if_room xs b) is.bursts ∙ sym (drawn_more bs b);
      left_out = left ∙ ap (λ (xs : List HeardBurst). left_out_after old.left_out xs b) is.bursts ∙ left_more old.left_out bs b is.left_out;
    }
