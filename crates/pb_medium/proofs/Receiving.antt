-- How a telegram reached the taps: one tap more in a set of taps.
use Rattle.std.proofs.Common.{◌≡◌, ◌≢◌, ◌∙◌, ℕ, zero, suc, ◌+◌, ◌<◌, ◌≤◌, List, [], ◌∷◌, length, set, get_or, take, drop, ◌++◌, refl, ap, sym, arith, Some, None, Bool, true, false, if◌then◌else◌, ◌==◌, inl, inr}
use Rattle.std.specs.Prelude.{slice_get, nat_lt}
use Rattle.std.proofs.lemmas.Bool.{ltb-true, ltb-false, cases_Bool}
use Rattle.law_model.specs.Trace.{Heard, Own, Pending, heard_at_first}
use Rattle.law_model.specs.Medium.{is_unheard, heard_in_the_end}
use Rattle.pb_medium.specs.declared.receptions.Reception.TheInside.{Inside}
use Rattle.pb_medium.specs.Receptions.{holds, listed, heard_as, heard_by_tap, heard_list}

-- ---- lists of what a function says of each tap

pub length-listed : (heard : ℕ → Heard) (from more : ℕ) → length (listed heard from more) ≡ more
length-listed heard from zero = refl
length-listed heard from (suc more) = ap (λ n. suc n) (length-listed heard (from + 1) more)

-- functions that agree make one list
pub listed-same : (f g : ℕ → Heard) (from more : ℕ) → ((tap : ℕ) → from ≤ tap → f tap ≡ g tap) → listed f from more ≡ listed g from more
listed-same f g from zero same = refl
listed-same f g from (suc more) same =
    ap (λ h. h ∷ listed f (from + 1) more) (same from (omega arith)) ∙ ap (λ hs. g from ∷ hs) (listed-same f g (from + 1) more (λ tap le. same tap (omega (arith, le))))

-- one of them is found at its place
pub listed-at : (f : ℕ → Heard) (from more i tap : ℕ) → from + i ≡ tap → i < more → slice_get (listed f from more) i ≡ Some (f tap)
listed-at f from zero i tap is there = absurd (omega (arith, there))
listed-at f from (suc more) zero tap is there = ap (λ n. Some (f n)) (let same : from ≡ tap = omega (arith, is) in same)
listed-at f from (suc more) (suc i) tap is there = listed-at f (from + 1) more i tap (omega (arith, is)) (omega (arith, there))

pub listed-none : (f : ℕ → Heard) (from more i : ℕ) → more ≤ i → slice_get (listed f from more) i ≡ None
listed-none f from zero i behind = refl
listed-none f from (suc more) zero behind = absurd (omega (arith, behind))
listed-none f from (suc more) (suc i) behind = listed-none f (from + 1) more i (omega (arith, behind))

-- a function that is another at one tap alone
pub listed-set : (f g : ℕ → Heard) (from more i tap : ℕ) (h : Heard) → from + i ≡ tap → g tap ≡ h → ((other : ℕ) → other ≢ tap → g other ≡ f other)
    → listed g from more ≡ set (listed f from more) i h
listed-set f g from zero i tap h is new others = refl
listed-set f g from (suc more) zero tap h is new others =
    let same : from ≡ tap = omega (arith, is) in
    ap (λ k. k ∷ listed g (from + 1) more) (ap g same ∙ new)
    ∙ ap (λ hs. h ∷ hs) (listed-same g f (from + 1) more (λ other le. others other (λ e. omega (arith, e, le, is))))
listed-set f g from (suc more) (suc i) tap h is new others =
    ap (λ k. k ∷ listed g (from + 1) more) (others from (λ e. omega (arith, e, is)))
    ∙ ap (λ hs. f from ∷ hs) (listed-set f g (from + 1) more i tap h (omega (arith, is)) new others)

-- what a new telegram is to each tap
pub listed-first : {X : Type 0} (f : ℕ → Heard) (speaker from more : ℕ) (ts : List X) → length ts ≡ more → ((tap : ℕ) → f tap ≡ (if tap == speaker then Own else Pending))
    → listed f from more ≡ heard_at_first speaker from ts
listed-first f speaker from zero [] size is = refl
listed-first f speaker from zero (t ∷ ts) size is = absurd (omega (arith, size))
listed-first f speaker from (suc more) [] size is = absurd (omega (arith, size))
listed-first f speaker from (suc more) (t ∷ ts) size is =
    ap (λ h. h ∷ listed f (from + 1) more) (is from)
    ∙ ap (λ hs. (if from == speaker then Own else Pending) ∷ hs) (listed-first f speaker (from + 1) more ts (omega (arith, size)) is)

-- ---- one tap among all

pub list-length : (r : Inside) (hs : List Heard) → heard_list r ≡ hs → length hs ≡ r.taps
list-length r hs seen = sym (ap (λ xs. length xs) seen) ∙ length-listed (heard_by_tap r) 0 r.taps

pub list-at : (r : Inside) (hs : List Heard) (tap : ℕ) → heard_list r ≡ hs → tap < r.taps → slice_get hs tap ≡ Some (heard_by_tap r tap)
list-at r hs tap seen there =
    sym (ap (λ xs. slice_get xs tap) seen) ∙ listed-at (heard_by_tap r) 0 r.taps tap tap (omega arith) there

pub list-none : (r : Inside) (hs : List Heard) (tap : ℕ) → heard_list r ≡ hs → r.taps ≤ tap → slice_get hs tap ≡ None
list-none r hs tap seen behind = sym (ap (λ xs. slice_get xs tap) seen) ∙ listed-none (heard_by_tap r) 0 r.taps tap behind

listed-get_or : (f : ℕ → Heard) (from more i tap : ℕ) (d : Heard) → from + i ≡ tap → i < more → get_or (listed f from more) i d ≡ f tap
listed-get_or f from zero i tap d is there = absurd (omega (arith, there))
listed-get_or f from (suc more) zero tap d is there = ap f (let same : from ≡ tap = omega (arith, is) in same)
listed-get_or f from (suc more) (suc i) tap d is there = listed-get_or f (from + 1) more i tap d (omega (arith, is)) (omega (arith, there))

pub list-get_or : (r : Inside) (hs : List Heard) (tap : ℕ) (d : Heard) → heard_list r ≡ hs → tap < r.taps → get_or hs tap d ≡ heard_by_tap r tap
list-get_or r hs tap d seen there =
    sym (ap (λ xs. get_or xs tap d) seen) ∙ listed-get_or (heard_by_tap r) 0 r.taps tap tap d (omega arith) there

-- it becomes something else to one tap alone
pub list-set : (r s : Inside) (hs : List Heard) (tap : ℕ) (h : Heard) → heard_list r ≡ hs → s.taps ≡ r.taps → heard_by_tap s tap ≡ h
    → ((other : ℕ) → other ≢ tap → heard_by_tap s other ≡ heard_by_tap r other) → heard_list s ≡ set hs tap h
list-set r s hs tap h seen size new others =
    ap (λ n. listed (heard_by_tap s) 0 n) size
    ∙ listed-set (heard_by_tap r) (heard_by_tap s) 0 r.taps tap tap h (omega arith) new others
    ∙ ap (λ xs. set xs tap h) seen

-- there is no such tap
pub set-behind : {X : Type 0} (xs : List X) (i : ℕ) (x : X) → length xs ≤ i → xs ≡ set xs i x
set-behind [] i x behind = refl
set-behind (y ∷ ys) zero x behind = absurd (omega (arith, behind))
set-behind (y ∷ ys) (suc i) x behind = ap (λ zs. y ∷ zs) (set-behind ys i x (omega (arith, behind)))

-- ---- what it is to a tap

pub as-unheard : (unheard own whole damaged : Bool) → unheard ≡ is_unheard (Some (heard_as unheard own whole damaged))
as-unheard true own whole damaged = refl
as-unheard false true whole damaged = refl
as-unheard false false true damaged = refl
as-unheard false false false true = refl
as-unheard false false false false = refl

-- nothing is lost at any tap
pub heard-by-all : (r : Inside) (hs : List Heard) → heard_list r ≡ hs → ((tap : ℕ) → holds r.unheard tap ≡ false) → (tap : ℕ) → is_unheard (slice_get hs tap) ≡ false
heard-by-all r hs seen none tap =
    elim (cases_Bool (nat_lt tap r.taps)) [
      | inl e ↦ ap is_unheard (list-at r hs tap seen (ltb-true tap r.taps e))
          ∙ sym (as-unheard (holds r.unheard tap) (tap == r.speaker) (holds r.whole tap) (holds r.damaged tap)) ∙ none tap
      | inr e ↦ ap is_unheard (list-none r hs tap seen (ltb-false tap r.taps e))
    ]

pub came-damaged : (unheard own whole damaged : Bool) → heard_as unheard own whole true ≡ heard_in_the_end false (heard_as unheard own whole damaged)
came-damaged true own whole damaged = refl
came-damaged false true whole damaged = refl
came-damaged false false true damaged = refl
came-damaged false false false true = refl
came-damaged false false false false = refl

pub came-whole : (unheard own whole : Bool) → heard_as unheard own true false ≡ heard_in_the_end true (heard_as unheard own whole false)
came-whole true own whole = refl
came-whole false true whole = refl
came-whole false false true = refl
came-whole false false false = refl

pub stays-damaged : (unheard own whole : Bool) → heard_as unheard own whole true ≡ heard_in_the_end true (heard_as unheard own whole true)
stays-damaged true own whole = refl
stays-damaged false true whole = refl
stays-damaged false false true = refl
stays-damaged false false false = refl

-- ---- lists that are replaced from the front keep their length

pub replaced-length : {X : Type 0} (new old : List X) (i : ℕ) → length new ≡ length old → length (take i new ++ drop i old) ≡ length old
replaced-length [] [] zero same = refl
replaced-length [] [] (suc i) same = refl
replaced-length [] (y ∷ old) i same = absurd (omega (arith, same))
replaced-length (x ∷ new) [] i same = absurd (omega (arith, same))
replaced-length (x ∷ new) (y ∷ old) zero same = refl
replaced-length (x ∷ new) (y ∷ old) (suc i) same = ap (λ n. suc n) (replaced-length new old i (omega (arith, same)))
