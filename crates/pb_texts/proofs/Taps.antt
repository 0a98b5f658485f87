-- The texts of taps, one after another.
use Rattle.std.proofs.Common.{◌≡◌, ◌∙◌, ap, sym, subst, arith, ℕ, zero, suc, ◌+◌, ◌≤◌, List, [], ◌∷◌, ◌++◌, length, Bool, true, false, if◌then◌else◌, Some, append_assoc}
use Rattle.std.specs.Prelude.{slice_get, drop}
use Rattle.std.proofs.lemmas.List.{drop_all}
use Rattle.std.proofs.lemmas.Option.{none-some, same_Some}
use Rattle.pb_timers.specs.Timers.{Params}
use Rattle.law_model.specs.Medium.{TapSpec}
use Rattle.pb_texts.specs.Texts.{comma_if, master_object, master_objects, tap_lines, taps_lines}

pub dropped : {X : Type 0} (xs : List X) (i : ℕ) (x : X) → slice_get xs i ≡ Some x → drop i xs ≡ x ∷ drop (i + 1) xs
dropped [] i x here = absurd (none-some x here)
dropped (y ∷ ys) zero x here = ap (λ z. z ∷ ys) (same_Some y x here)
dropped {X} (y ∷ ys) (suc i) x here =
    let place : suc (i + 1) ≡ suc i + 1 = omega arith in
    subst (λ (n : ℕ). drop i ys ≡ x ∷ drop n (y ∷ ys)) place (dropped ys i x here)

-- the lines of the taps from one on, behind a text
pub lines-step : (baud : ℕ) (p : Params) (names : List (List ℕ)) (specs : List TapSpec) (i : ℕ) (name : List ℕ) (spec : TapSpec) (text after all : List ℕ)
    → slice_get names i ≡ Some name → slice_get specs i ≡ Some spec → after ≡ text ++ tap_lines baud p name spec
    → text ++ taps_lines baud p (drop i names) (drop i specs) ≡ all → after ++ taps_lines baud p (drop (i + 1) names) (drop (i + 1) specs) ≡ all
lines-step baud p names specs i name spec text after all here at is so_far =
    let rest = taps_lines baud p (drop (i + 1) names) (drop (i + 1) specs) in
    let step : taps_lines baud p (drop i names) (drop i specs) ≡ tap_lines baud p name spec ++ rest =
    ap (λ ns. taps_lines baud p ns (drop i specs)) (dropped names i name here) ∙ ap (λ ss. taps_lines baud p (name ∷ drop (i + 1) names) ss) (dropped specs i spec at) in
    ap (λ xs. xs ++ rest) is ∙ append_assoc text (tap_lines baud p name spec) rest ∙ ap (λ xs. text ++ xs) (sym step) ∙ so_far

pub lines-end : (baud : ℕ) (p : Params) (names : List (List ℕ)) (specs : List TapSpec) (i : ℕ) → length names ≤ i → taps_lines baud p (drop i names) (drop i specs) ≡ []
lines-end baud p names specs i all = ap (λ ns. taps_lines baud p ns (drop i specs)) (drop_all i names all)

-- the objects of the masters from one on
pub objects-step : (baud : ℕ) (p : Params) (behind : Bool) (names : List (List ℕ)) (specs : List TapSpec) (i : ℕ) (name : List ℕ) (spec : TapSpec)
    → slice_get names i ≡ Some name → slice_get specs i ≡ Some spec
    → master_objects baud p behind (drop i names) (drop i specs)
    ≡ (if spec.master then comma_if behind ++ master_object baud p name spec.address ++ master_objects baud p true (drop (i + 1) names) (drop (i + 1) specs)
    else master_objects baud p behind (drop (i + 1) names) (drop (i + 1) specs))
objects-step baud p behind names specs i name spec here at =
    ap (λ ns. master_objects baud p behind ns (drop i specs)) (dropped names i name here) ∙ ap (λ ss. master_objects baud p behind (name ∷ drop (i + 1) names) ss) (dropped specs i spec at)

-- behind a text
pub objects-master : (baud : ℕ) (p : Params) (behind : Bool) (names : List (List ℕ)) (specs : List TapSpec) (i : ℕ) (name : List ℕ) (spec : TapSpec) (text between after all : List ℕ)
    → slice_get names i ≡ Some name → slice_get specs i ≡ Some spec → spec.master ≡ true
    → between ≡ text ++ comma_if behind → after ≡ between ++ master_object baud p name spec.address
    → text ++ master_objects baud p behind (drop i names) (drop i specs) ≡ all
    → after ++ master_objects baud p true (drop (i + 1) names) (drop (i + 1) specs) ≡ all
objects-master baud p behind names specs i name spec text between after all here at is comma object so_far =
    let rest = master_objects baud p true (drop (i + 1) names) (drop (i + 1) specs) in
    let one = master_object baud p name spec.address in
    let step : master_objects baud p behind (drop i names) (drop i specs) ≡ comma_if behind ++ one ++ rest =
    objects-step baud p behind names specs i name spec here at
    ∙ ap (λ (b : Bool). if b then comma_if behind ++ one ++ rest else master_objects baud p behind (drop (i + 1) names) (drop (i + 1) specs)) is in
    ap (λ xs. xs ++ rest) (object ∙ ap (λ xs. xs ++ one) comma ∙ append_assoc text (comma_if behind) one) ∙ append_assoc text (comma_if behind ++ one) rest
    ∙ ap (λ xs. text ++ xs) (sym step) ∙ so_far

pub objects-other : (baud : ℕ) (p : Params) (behind : Bool) (names : List (List ℕ)) (specs : List TapSpec) (i : ℕ) (name : List ℕ) (spec : TapSpec) (text all : List ℕ)
    → slice_get names i ≡ Some name → slice_get specs i ≡ Some spec → spec.master ≡ false
    → text ++ master_objects baud p behind (drop i names) (drop i specs) ≡ all
    → text ++ master_objects baud p behind (drop (i + 1) names) (drop (i + 1) specs) ≡ all
objects-other baud p behind names specs i name spec text all here at is so_far =
    let rest = master_objects baud p behind (drop (i + 1) names) (drop (i + 1) specs) in
    let step = objects-step baud p behind names specs i name spec here at
    ∙ ap (λ (b : Bool). if b then comma_if behind ++ master_object baud p name spec.address ++ master_objects baud p true (drop (i + 1) names) (drop (i + 1) specs) else rest) is in
    ap (λ xs. text ++ xs) (sym step) ∙ so_far

pub objects-end : (baud : ℕ) (p : Params) (behind : Bool) (names : List (List ℕ)) (specs : List TapSpec) (i : ℕ) → length names ≤ i → master_objects baud p behind (drop i names) (drop i specs) ≡ []
objects-end baud p behind names specs i all = ap (λ ns. master_objects baud p behind ns (drop i specs)) (drop_all i names all)
