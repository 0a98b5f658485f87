-- What steps say, one after another.
use Rattle.std.proofs.Common.{◌≡◌, ◌∙◌, ℕ, zero, suc, ◌+◌, List, [], ◌∷◌, ◌++◌, take, drop, slice_get, Option, Some, None, refl, ap, arith}
use Rattle.std.specs.List.{cons_option}
use Rattle.std.specs.Option.{option_to_list}
use Rattle.law_model.specs.World.{Event}
use Rattle.pb_scenario.specs.declared.deeds.Step.{Step}
use Rattle.pb_scenario.specs.declared.deeds.When.{When}
use Rattle.pb_scenario.specs.Steps.{deed_of, steps_of}
use Rattle.pb_scenario.specs.Said.{said_in, said_by}

one-said : (when : When) (s : Step) → said_by when (steps_of (s ∷ [])) ≡ option_to_list (said_in when (deed_of s.deed))
one-said when s = by (said_in when (deed_of s.deed))
  where
    by : (o : Option Event) → cons_option o [] ≡ option_to_list o
    by None = refl
    by (Some e) = refl

said-append : (when : When) (xs ys : List Step) → said_by when (steps_of (xs ++ ys)) ≡ said_by when (steps_of xs) ++ said_by when (steps_of ys)
said-append when [] ys = refl
said-append when (x ∷ xs) ys = ap (cons_option (said_in when (deed_of x.deed))) (said-append when xs ys) ∙ by (said_in when (deed_of x.deed))
  where
    by : (o : Option Event) → cons_option o (said_by when (steps_of xs) ++ said_by when (steps_of ys)) ≡ cons_option o (said_by when (steps_of xs)) ++ said_by when (steps_of ys)
    by None = refl
    by (Some e) = refl

take-one : {X : Type 0} (xs : List X) (i : ℕ) (x : X) → slice_get xs i ≡ Some x → take (i + 1) xs ≡ take i xs ++ x ∷ []
take-one [] i x found = absurd cc
take-one (y ∷ ys) zero x found = let same : y ≡ x = cc in ap (λ z. z ∷ []) same
take-one (y ∷ ys) (suc i) x found =
    let same : suc i + 1 ≡ suc (i + 1) = omega arith in
    ap (λ n. take n (y ∷ ys)) same ∙ ap (λ zs. y ∷ zs) (take-one ys i x found)

cut-at : {X : Type 0} (xs : List X) (i : ℕ) (x : X) → slice_get xs i ≡ Some x → xs ≡ take i xs ++ (x ∷ drop (i + 1) xs)
cut-at [] i x found = absurd cc
cut-at (y ∷ ys) zero x found = let same : y ≡ x = cc in ap (λ z. z ∷ ys) same
cut-at (y ∷ ys) (suc i) x found =
    let same : suc (i + 1) ≡ suc i + 1 = omega arith in
    ap (λ zs. y ∷ zs) (cut-at ys i x found) ∙ ap (λ n. y ∷ (take i ys ++ (x ∷ drop n (y ∷ ys)))) same

-- what steps say up to one of them
pub said-more : (when : When) (i : ℕ) (steps : List Step) (s : Step) → slice_get steps i ≡ Some s
    → said_by when (steps_of (take (i + 1) steps)) ≡ said_by when (steps_of (take i steps)) ++ option_to_list (said_in when (deed_of s.deed))
said-more when i steps s found =
    ap (λ xs. said_by when (steps_of xs)) (take-one steps i s found) ∙ said-append when (take i steps) (s ∷ []) ∙ ap (λ es. said_by when (steps_of (take i steps)) ++ es) (one-said when s)

-- what all of them say: up to one of them, what that one says, and what those behind it do
pub said-cut : (when : When) (i : ℕ) (steps : List Step) (s : Step) → slice_get steps i ≡ Some s
    → said_by when (steps_of steps) ≡ said_by when (steps_of (take i steps)) ++ (option_to_list (said_in when (deed_of s.deed)) ++ said_by when (steps_of (drop (i + 1) steps)))
said-cut when i steps s found =
    ap (λ xs. said_by when (steps_of xs)) (cut-at steps i s found) ∙ said-append when (take i steps) (s ∷ drop (i + 1) steps)
    ∙ ap (λ es. said_by when (steps_of (take i steps)) ++ es) (said-append when (s ∷ []) (drop (i + 1) steps) ∙ ap (λ es. es ++ said_by when (steps_of (drop (i + 1) steps))) (one-said when s))
