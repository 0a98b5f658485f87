-- How a telegram was heard, as a list of it is gone through.
use Rattle.std.proofs.Common.{◌≡◌, ◌∙◌, ap, sym, refl, subst, arith, ℕ, zero, suc, ◌+◌, ◌<◌, ◌≤◌, ◌++◌, List, [], ◌∷◌, length, take, drop, get_or, set, Bool, true, false, if◌then◌else◌, Option, Some, None}
use Rattle.std.specs.Prelude.{slice_get, not, ◌&&◌, ◌==◌}
use Rattle.std.proofs.lemmas.List.{append-nil, drop_all, take_all}
use Rattle.std.proofs.lemmas.Option.{none-some, same_Some}
use Rattle.law_model.specs.Trace.{Heard, Own, Pending, heard_at_first}
use Rattle.pb_medium.specs.Making.{is_own, is_own_alone, own_or_pending}

both-first : (a b : Bool) → (a && b) ≡ true → a ≡ true
both-first true b both = refl
both-first false b both = absurd cc

both-second : (a b : Bool) → (a && b) ≡ true → b ≡ true
both-second true b both = both
both-second false b both = absurd cc

-- what is the speaker's own, and no other's, is at first what is own or pending
at-first : (b own : Bool) → (if b then own else not own) ≡ true → (if b then Own else Pending) ≡ (if own then Own else Pending)
at-first true true same = refl
at-first true false same = absurd cc
at-first false true same = absurd cc
at-first false false same = refl

pub first-length : (speaker from : ℕ) (hs : List Heard) → length (heard_at_first speaker from hs) ≡ length hs
first-length speaker from [] = refl
first-length speaker from (h ∷ hs) = ap (λ n. suc n) (first-length speaker (from + 1) hs)

pub first-at : (speaker from i : ℕ) (hs : List Heard) (h : Heard) → is_own_alone speaker from hs ≡ true → slice_get hs i ≡ Some h
    → get_or (heard_at_first speaker from hs) i Pending ≡ own_or_pending h
first-at speaker from i [] h own at = absurd (none-some h at)
first-at speaker from zero (x ∷ hs) h own at =
    at-first (from == speaker) (is_own x) (both-first (if from == speaker then is_own x else not (is_own x)) (is_own_alone speaker (from + 1) hs) own)
    ∙ ap own_or_pending (same_Some x h at)
first-at speaker from (suc i) (x ∷ hs) h own at =
    first-at speaker (from + 1) i hs h (both-second (if from == speaker then is_own x else not (is_own x)) (is_own_alone speaker (from + 1) hs) own) at

-- the first of some items, and the rest of others: what stands behind the first, and what it is with one more
pub mixed-at : (hs fs : List Heard) (i : ℕ) (d : Heard) → i < length fs → length hs ≡ length fs → get_or (take i hs ++ drop i fs) i d ≡ get_or fs i d
mixed-at hs [] i d there size = absurd (omega (arith, there))
mixed-at [] (f ∷ fs) i d there size = absurd (omega (arith, size))
mixed-at (h ∷ hs) (f ∷ fs) zero d there size = refl
mixed-at (h ∷ hs) (f ∷ fs) (suc i) d there size = mixed-at hs fs i d (omega (arith, there)) (omega (arith, size))

mixed-next : (hs fs : List Heard) (i : ℕ) (h : Heard) → length hs ≡ length fs → slice_get hs i ≡ Some h
    → set (take i hs ++ drop i fs) i h ≡ take (suc i) hs ++ drop (suc i) fs
mixed-next [] fs i h size at = absurd (none-some h at)
mixed-next (x ∷ hs) [] i h size at = absurd (omega (arith, size))
mixed-next (x ∷ hs) (f ∷ fs) zero h size at = ap (λ y. y ∷ fs) (sym (same_Some x h at))
mixed-next (x ∷ hs) (f ∷ fs) (suc i) h size at = ap (λ l. x ∷ l) (mixed-next hs fs i h (omega (arith, size)) at)

pub mixed-more : (hs fs : List Heard) (i : ℕ) (h : Heard) → length hs ≡ length fs → slice_get hs i ≡ Some h
    → set (take i hs ++ drop i fs) i h ≡ take (i + 1) hs ++ drop (i + 1) fs
mixed-more hs fs i h size at = let one : suc i ≡ i + 1 = omega arith in mixed-next hs fs i h size at ∙ ap (λ n. take n hs ++ drop n fs) one

pub mixed-length : (hs fs : List Heard) (i : ℕ) → length hs ≡ length fs → length (take i hs ++ drop i fs) ≡ length fs
mixed-length [] [] zero size = refl
mixed-length [] [] (suc i) size = refl
mixed-length [] (f ∷ fs) i size = absurd (omega (arith, size))
mixed-length (h ∷ hs) [] i size = absurd (omega (arith, size))
mixed-length (h ∷ hs) (f ∷ fs) zero size = refl
mixed-length (h ∷ hs) (f ∷ fs) (suc i) size = ap (λ n. suc n) (mixed-length hs fs i (omega (arith, size)))

pub mixed-all : (hs fs : List Heard) (i : ℕ) → length hs ≡ length fs → length hs ≤ i → take i hs ++ drop i fs ≡ hs
mixed-all hs fs i size behind =
    ap (λ l. l ++ drop i fs) (take_all i hs behind) ∙ ap (λ l. hs ++ l) (drop_all i fs (omega (arith, size, behind))) ∙ append-nil hs

-- ---- a walk over a list

pub alone-so-far : (speaker place : ℕ) (h : Heard) (hs : List Heard) → (if place == speaker then is_own h else not (is_own h)) ≡ true
    → is_own_alone speaker place (h ∷ hs) ≡ is_own_alone speaker (place + 1) hs
alone-so-far speaker place h hs fine = ap (λ b. b && is_own_alone speaker (place + 1) hs) fine

pub alone-no-more : (speaker place : ℕ) (h : Heard) (hs : List Heard) → (if place == speaker then is_own h else not (is_own h)) ≡ false
    → is_own_alone speaker place (h ∷ hs) ≡ false
alone-no-more speaker place h hs wrong = ap (λ b. b && is_own_alone speaker (place + 1) hs) wrong
