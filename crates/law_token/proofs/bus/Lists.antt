-- What holds of each entry of a trace.
use Rattle.std.proofs.Common.{◌≡◌, ℕ, zero, suc, Bool, true, inl, inr, ⊎_elim, List, [], ◌∷◌, map, refl, sym, ap, ◌∙◌, subst, Some}
use Rattle.std.specs.Prelude.{slice_get, slice_set}
use Rattle.std.proofs.lemmas.Bool.{cases_eq}
use Rattle.std.proofs.lemmas.Option.{none-some, same_Some}
use Rattle.law_model.specs.Trace.{Entry, goes_before, with_entry}
use Rattle.law_model.specs.Step.{change_first}
use Rattle.law_model.proofs.Cases.{by_test}
use Rattle.law_token.specs.Lists.{Each, In}

pub each_in : (P : Entry → Type 0) (e : Entry) (es : List Entry) → Each P es → In e es → P e
each_in P e [] all i = absurd i
each_in P e (x ∷ xs) all i = ⊎_elim (λ (same : x ≡ e). subst P same all.0) (λ (j : In e xs). each_in P e xs all.1 j) i

pub each_map : (P Q : Entry → Type 0) (es : List Entry) → ((e : Entry) → P e → Q e) → Each P es → Each Q es
each_map P Q [] f all = tt
each_map P Q (e ∷ es) f all = (f e all.0, each_map P Q es f all.1)

pub each_all : (Q : Entry → Type 0) (es : List Entry) → ((e : Entry) → Q e) → Each Q es
each_all Q [] f = tt
each_all Q (e ∷ es) f = (f e, each_all Q es f)

pub each_both : (P Q R : Entry → Type 0) (es : List Entry) → ((e : Entry) → P e → Q e → R e) → Each P es → Each Q es → Each R es
each_both P Q R [] f a b = tt
each_both P Q R (e ∷ es) f a b = (f e a.0 b.0, each_both P Q R es f a.1 b.1)

-- what holds of each entry holds after one more, if of that
pub each_with : (P : Entry → Type 0) (e : Entry) (es : List Entry) → P e → Each P es → Each P (with_entry e es)
each_with P e [] h all = (h, tt)
each_with P e (x ∷ xs) h all =
    by_test (λ (ys : List Entry). Each P ys) (goes_before e x) (e ∷ x ∷ xs) (x ∷ with_entry e xs) (λ _. (h, all)) (λ _. (all.0, each_with P e xs h all.1))

-- and held before one more, and of that
pub each_without : (P : Entry → Type 0) (e : Entry) (es : List Entry) → Each P (with_entry e es) → P e × Each P es
each_without P e [] all = (all.0, tt)
each_without P e (x ∷ xs) all =
    by_test (λ (ys : List Entry). Each P ys → P e × Each P (x ∷ xs)) (goes_before e x) (e ∷ x ∷ xs) (x ∷ with_entry e xs)
    (λ _ a. (a.0, a.1)) (λ _ a. let r = each_without P e xs a.1 in (r.0, (a.0, r.1))) all

-- after a map, of what the function gives
pub each_mapped : (P : Entry → Type 0) (f : Entry → Entry) (es : List Entry) → Each (λ e. P (f e)) es → Each P (map f es)
each_mapped P f [] all = tt
each_mapped P f (e ∷ es) all = (all.0, each_mapped P f es all.1)

pub each_unmapped : (P : Entry → Type 0) (f : Entry → Entry) (es : List Entry) → Each P (map f es) → Each (λ e. P (f e)) es
each_unmapped P f [] all = tt
each_unmapped P f (e ∷ es) all = (all.0, each_unmapped P f es all.1)

-- a change of the first entry that passes a test
pub each_changed : (P : Entry → Type 0) (test : Entry → Bool) (change : Entry → Entry) (es : List Entry) → ((e : Entry) → test e ≡ true → P e → P (change e)) → Each P es → Each P (change_first test change es)
each_changed P test change [] f all = tt
each_changed P test change (e ∷ es) f all =
    by_test (λ (xs : List Entry). Each P xs) (test e) (change e ∷ es) (e ∷ change_first test change es)
    (λ passes. (f e passes all.0, all.1)) (λ _. (all.0, each_changed P test change es f all.1))

-- by where it stands in the trace
pub each_inside : (P Q : Entry → Type 0) (es : List Entry) → ((e : Entry) → In e es → P e → Q e) → Each P es → Each Q es
each_inside P Q [] f all = tt
each_inside P Q (e ∷ es) f all = (f e (inl refl) all.0, each_inside P Q es (λ x i h. f x (inr i) h) all.1)

-- ---- lists at places

pub get_set_at : {X : Type 0} (xs : List X) (i : ℕ) (y t : X) → slice_get (slice_set xs i y) i ≡ Some t → t ≡ y
get_set_at [] i y t h = absurd (none-some t h)
get_set_at (x ∷ xs) zero y t h = sym (same_Some y t h)
get_set_at (x ∷ xs) (suc i) y t h = get_set_at xs i y t h

pub get_set_other : {X : Type 0} (xs : List X) (i j : ℕ) (y : X) → (i ≡ j → ⊥) → slice_get (slice_set xs i y) j ≡ slice_get xs j
get_set_other [] i j y ne = refl
get_set_other (x ∷ xs) zero zero y ne = absurd (ne refl)
get_set_other (x ∷ xs) zero (suc j) y ne = refl
get_set_other (x ∷ xs) (suc i) zero y ne = refl
get_set_other (x ∷ xs) (suc i) (suc j) y ne = get_set_other xs i j y (λ e. ne (ap suc e))

abbrev pub At : {X : Type 0} → (ℕ → X → Type 0) → List X → Type 0
At {X} P xs = (i : ℕ) (x : X) → slice_get xs i ≡ Some x → P i x

pub at_set : {X : Type 0} (P : ℕ → X → Type 0) (xs : List X) (i : ℕ) (y : X) → P i y → ((j : ℕ) (x : X) → (i ≡ j → ⊥) → slice_get xs j ≡ Some x → P j x) → At P (slice_set xs i y)
at_set {X} P xs i y here others j x at =
    ⊎_elim
    (λ (e : i ≡ j).
    let at' : slice_get (slice_set xs i y) i ≡ Some x = subst (λ k. slice_get (slice_set xs i y) k ≡ Some x) (sym e) at in
    subst (λ k. P k x) e (subst (λ z. P i z) (sym (get_set_at xs i y x at')) here))
    (λ (ne : i ≡ j → ⊥). others j x ne (sym (get_set_other xs i j y ne) ∙ at))
    (cases_eq i j)
