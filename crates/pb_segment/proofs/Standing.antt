-- Receipts that stand in a history one after the other, and as many as there are events of the seat, are all that it was told.
use Rattle.std.proofs.Common.{◌≡◌, ℕ, zero, suc, ◌+◌, ◌<◌, ◌≤◌, Bool, true, false, List, [], ◌∷◌, length, drop, Some, ◌==◌, refl, sym, ap, subst, ◌∙◌, arith}
use Rattle.std.specs.Prelude.{slice_get}
use Rattle.std.proofs.lemmas.Grind.{common_steps, elements}
use Rattle.std.proofs.lemmas.Bool.Decides.{nat_tests}
use Rattle.std.proofs.lemmas.List.{drop_all}
use Rattle.std.proofs.lemmas.Option.{none-some, same_Some}
use Rattle.law_model.specs.World.{Event, Reply}
use Rattle.pb_segment.specs.Histories.{Happened, Receipt, told_if, told_from, told, StandsFrom, StandInOrder}

-- ---- lists

at_drop : (k : ℕ) (hs : List Happened) (h : Happened) (es : List Happened) → drop k hs ≡ h ∷ es → slice_get hs k ≡ Some h
at_drop zero [] h es cut = absurd cc
at_drop zero (x ∷ hs) h es cut = let same : x ≡ h = cc in ap (λ (y : Happened). Some y) same
at_drop (suc k) [] h es cut = absurd cc
at_drop (suc k) (x ∷ hs) h es cut = at_drop k hs h es cut

past_drop : (k : ℕ) (hs : List Happened) (h : Happened) (es : List Happened) → drop k hs ≡ h ∷ es → drop (suc k) hs ≡ es
past_drop zero [] h es cut = absurd cc
past_drop zero (x ∷ hs) h es cut = cc
past_drop (suc k) [] h es cut = absurd cc
past_drop (suc k) (x ∷ hs) h es cut = past_drop k hs h es cut

after_drop : (k : ℕ) (hs : List Happened) (h : Happened) (es : List Happened) → drop k hs ≡ h ∷ es → drop (k + 1) hs ≡ es
after_drop k hs h es cut = let one : k + 1 ≡ suc k = omega arith in ap (λ (n : ℕ). drop n hs) one ∙ past_drop k hs h es cut

-- ---- one receipt

earlier : (is : Event → Bool) (hs : List Happened) (k : ℕ) (rs : List Receipt) → StandInOrder is hs (k + 1) rs → StandInOrder is hs k rs
unfolding StandInOrder
earlier is hs k [] all = tt
earlier is hs k (r ∷ rs) all = (record { later = omega (arith, all.0.later); happened = all.0.happened; here = all.0.here; own = all.0.own; reply = all.0.reply }, all.1)

-- ---- what was told stands in order

stands_if : (is : Event → Bool) (hs : List Happened) (k : ℕ) (h : Happened) (rs : List Receipt) (b : Bool) → is h.event ≡ b → slice_get hs k ≡ Some h
    → StandInOrder is hs (k + 1) rs → StandInOrder is hs k (told_if b (record { place = k; reply = h.reply }) rs)
unfolding StandInOrder
stands_if is hs k h rs true own here all = (record { later = omega arith; happened = h; here = here; own = own; reply = refl }, all)
stands_if is hs k h rs false own here all = earlier is hs k rs all

told_stands : (is : Event → Bool) (hs : List Happened) (k : ℕ) (es : List Happened) → drop k hs ≡ es → StandInOrder is hs k (told_from is k es)
unfolding told_from StandInOrder
told_stands is hs k [] cut = tt
told_stands is hs k (h ∷ es) cut =
    stands_if is hs k h (told_from is (k + 1) es) (is h.event) refl (at_drop k hs h es cut) (told_stands is hs (k + 1) es (after_drop k hs h es cut))

pub told_in_order : (is : Event → Bool) (hs : List Happened) → StandInOrder is hs 0 (told is hs)
told_in_order is hs = told_stands is hs 0 hs refl

-- ---- and nothing else does that is as long

-- a list of receipts is no longer than what was told, and is that where it is as long
abbrev Fills : List Receipt → List Receipt → Type 0
Fills rs all = (length rs ≤ length all) × (length rs ≡ length all → all ≡ rs)

skips : (b : Bool) (r : Receipt) (rs all : List Receipt) → Fills rs all → Fills rs (told_if b r all)
skips true r rs all f = (omega (arith, f.0), λ same. absurd (omega (arith, f.0, same)))
skips false r rs all f = f

takes : (r : Receipt) (rs all : List Receipt) → Fills rs all → Fills (r ∷ rs) (r ∷ all)
takes r rs all f = (omega (arith, f.0), λ same. let rest : length rs ≡ length all = omega (arith, same) in ap (λ (l : List Receipt). r ∷ l) (f.1 rest))

takes_if : (b : Bool) (p r : Receipt) (rs all : List Receipt) → b ≡ true → p ≡ r → Fills rs all → Fills (r ∷ rs) (told_if b p all)
takes_if true p r rs all own same f = subst (λ (x : Receipt). Fills (r ∷ rs) (x ∷ all)) (sym same) (takes r rs all f)
takes_if false p r rs all own same f = absurd cc

none_left : (is : Event → Bool) (hs : List Happened) (k : ℕ) (r : Receipt) → drop k hs ≡ [] → StandsFrom is hs k r → ⊥
none_left is hs k r cut s =
    let later : k ≤ r.place = s.later in
    let here : slice_get hs r.place ≡ Some s.happened = s.here in
    grind (arith, common_steps, elements)

here_same : (hs : List Happened) (k : ℕ) (h g : Happened) (r : Receipt) → slice_get hs k ≡ Some h → slice_get hs r.place ≡ Some g → k ≡ r.place → h ≡ g
here_same hs k h g r one other same = let moved = ap (λ (n : ℕ). slice_get hs n) same in cc

abbrev at_place : ℕ → Reply → Receipt
at_place k reply = record { place = k; reply = reply }

place_of : (k : ℕ) (h g : Happened) (r : Receipt) → k ≡ r.place → h ≡ g → g.reply ≡ r.reply → at_place k h.reply ≡ r
place_of k h g r place same reply =
    ap (λ (n : ℕ). at_place n h.reply) place ∙ ap (λ (x : Happened). at_place r.place x.reply) same ∙ ap (λ (q : Reply). at_place r.place q) reply

nothing : (xs : List Receipt) → 0 ≡ length xs → xs ≡ []
nothing [] none = refl
nothing (x ∷ xs) none = absurd (omega arith)

fills_step : (is : Event → Bool) (hs : List Happened) (k : ℕ) (h : Happened) (es : List Happened) (r : Receipt) (rs : List Receipt) (b : Bool) → (k == r.place) ≡ b
    → slice_get hs k ≡ Some h → StandsFrom is hs k r → (k ≡ r.place → Fills rs (told_from is (k + 1) es)) → (k < r.place → Fills (r ∷ rs) (told_from is (k + 1) es))
    → Fills (r ∷ rs) (told_if (is h.event) (at_place k h.reply) (told_from is (k + 1) es))
fills_step is hs k h es r rs true e at s taken skipped =
    let place : k ≡ r.place = grind (arith, nat_tests) in
    let same : h ≡ s.happened = here_same hs k h s.happened r at s.here place in
    takes_if (is h.event) (at_place k h.reply) r rs (told_from is (k + 1) es) (ap (λ (x : Happened). is x.event) same ∙ s.own) (place_of k h s.happened r place same s.reply) (taken place)
fills_step is hs k h es r rs false e at s taken skipped =
    let from : k ≤ r.place = s.later in
    let later : k < r.place = grind (arith, nat_tests) in
    skips (is h.event) (at_place k h.reply) (r ∷ rs) (told_from is (k + 1) es) (skipped later)

fills_from : (is : Event → Bool) (hs : List Happened) (k : ℕ) (es : List Happened) (rs : List Receipt) → drop k hs ≡ es → StandInOrder is hs k rs → Fills rs (told_from is k es)
unfolding told_from StandInOrder
fills_from is hs k [] [] cut all = (omega arith, λ same. refl)
fills_from is hs k [] (r ∷ rs) cut all = absurd (none_left is hs k r cut all.0)
fills_from is hs k (h ∷ es) [] cut all = (omega arith, λ same. nothing _ same)
fills_from is hs k (h ∷ es) (r ∷ rs) cut all =
    let more = after_drop k hs h es cut in
    fills_step is hs k h es r rs (k == r.place) refl (at_drop k hs h es cut) all.0
    (λ place. fills_from is hs (k + 1) es rs more (subst (λ (n : ℕ). StandInOrder is hs n rs) (ap (λ (n : ℕ). n + 1) (sym place)) all.1))
    (λ later. fills_from is hs (k + 1) es (r ∷ rs) more (record { later = omega (arith, later); happened = all.0.happened; here = all.0.here; own = all.0.own; reply = all.0.reply }, all.1))

pub in_order_told : (is : Event → Bool) (hs : List Happened) (rs : List Receipt) → StandInOrder is hs 0 rs → length rs ≡ length (told is hs) → told is hs ≡ rs
in_order_told is hs rs all count = (fills_from is hs 0 hs rs refl all).1 count

-- ---- a receipt at a place

drop_suc : (rs : List Receipt) (i : ℕ) (r : Receipt) → slice_get rs i ≡ Some r → drop i rs ≡ r ∷ drop (suc i) rs
drop_suc [] i r at = absurd (none-some r at)
drop_suc (x ∷ rs) zero r at = ap (λ (y : Receipt). y ∷ rs) (same_Some x r at)
drop_suc (x ∷ rs) (suc i) r at = drop_suc rs i r at

drop_here : (rs : List Receipt) (i : ℕ) (r : Receipt) → slice_get rs i ≡ Some r → drop i rs ≡ r ∷ drop (i + 1) rs
drop_here rs i r at = let one : suc i ≡ i + 1 = omega arith in drop_suc rs i r at ∙ ap (λ (n : ℕ). r ∷ drop n rs) one

first_stands : (is : Event → Bool) (hs : List Happened) (from : ℕ) (r : Receipt) (rs all : List Receipt) → all ≡ r ∷ rs → StandInOrder is hs from all → StandsFrom is hs from r × StandInOrder is hs (r.place + 1) rs
unfolding StandInOrder
first_stands is hs from r rs all cut stand = subst (λ (l : List Receipt). StandInOrder is hs from l) cut stand

all_stand : (is : Event → Bool) (hs : List Happened) (from : ℕ) (r : Receipt) (rs all : List Receipt) → all ≡ r ∷ rs → StandsFrom is hs from r → StandInOrder is hs (r.place + 1) rs → StandInOrder is hs from all
unfolding StandInOrder
all_stand is hs from r rs all cut one more = subst (λ (l : List Receipt). StandInOrder is hs from l) (sym cut) (one, more)

-- the first of those that are left stands, and the others from its place on
pub next_stands : (is : Event → Bool) (hs : List Happened) (from : ℕ) (rs : List Receipt) (i : ℕ) (r : Receipt) → slice_get rs i ≡ Some r → StandInOrder is hs from (drop i rs)
    → StandsFrom is hs from r × StandInOrder is hs (r.place + 1) (drop (i + 1) rs)
next_stands is hs from rs i r at stand = first_stands is hs from r (drop (i + 1) rs) (drop i rs) (drop_here rs i r at) stand

pub left_stand : (is : Event → Bool) (hs : List Happened) (from : ℕ) (rs : List Receipt) (i : ℕ) (r : Receipt) → slice_get rs i ≡ Some r → StandsFrom is hs from r
    → StandInOrder is hs (r.place + 1) (drop (i + 1) rs) → StandInOrder is hs from (drop i rs)
left_stand is hs from rs i r at one more = all_stand is hs from r (drop (i + 1) rs) (drop i rs) (drop_here rs i r at) one more

none_stand : (is : Event → Bool) (hs : List Happened) (from : ℕ) (rs : List Receipt) → rs ≡ [] → StandInOrder is hs from rs
unfolding StandInOrder
none_stand is hs from rs none = subst (λ (l : List Receipt). StandInOrder is hs from l) (sym none) tt

pub end_stands : (is : Event → Bool) (hs : List Happened) (from : ℕ) (rs : List Receipt) (i : ℕ) → length rs ≤ i → StandInOrder is hs from (drop i rs)
end_stands is hs from rs i over = none_stand is hs from (drop i rs) (drop_all i rs over)

pub stands_inside : (is : Event → Bool) (hs : List Happened) (from : ℕ) (r : Receipt) → length hs ≤ r.place → StandsFrom is hs from r → ⊥
stands_inside is hs from r over s =
    let here : slice_get hs r.place ≡ Some s.happened = s.here in
    grind (arith, elements)
