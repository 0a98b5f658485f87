-- What the first fault of a list is.
use Rattle.std.proofs.Common.{◌≡◌, Bool, true, false, List, [], ◌∷◌, ◌++◌, Some, None, refl, ap, ◌∙◌}
use Rattle.pb_faults.specs.FirstFault.{first_fault, NoneHolds, IsFirst}

pub is_first : {F : Type 0} (tests : List (Bool × F)) (fault : F) → first_fault tests ≡ Some fault → IsFirst tests fault
is_first {F} [] fault e = absurd cc
is_first {F} ((true, f) ∷ tests) fault e =
    let same : f ≡ fault = cc in
    record { before = []; after = tests; stands = ap (λ (g : F). (true, g) ∷ tests) same; none_before = tt }
is_first {F} ((false, f) ∷ tests) fault e =
    let rest = is_first tests fault e in
    record {
      before = (false, f) ∷ rest.before;
      after = rest.after;
      stands = ap (λ (more : List (Bool × F)). (false, f) ∷ more) rest.stands;
      none_before = (refl, rest.none_before);
    }

-- past tests that do not hold the search goes on
pub first_fault-append : {F : Type 0} (before tests : List (Bool × F)) → NoneHolds before → first_fault (before ++ tests) ≡ first_fault tests
first_fault-append {F} [] tests none = refl
first_fault-append {F} ((true, f) ∷ before) tests none = absurd (let e : true ≡ false = none.0 in cc)
first_fault-append {F} ((false, f) ∷ before) tests none = first_fault-append before tests none.1

pub first_is_found : {F : Type 0} (tests : List (Bool × F)) (fault : F) → IsFirst tests fault → first_fault tests ≡ Some fault
first_is_found {F} tests fault first =
    ap (λ (ts : List (Bool × F)). first_fault ts) first.stands ∙ first_fault-append first.before ((true, fault) ∷ first.after) first.none_before

pub none_holds : {F : Type 0} (tests : List (Bool × F)) → first_fault tests ≡ None → NoneHolds tests
none_holds {F} [] e = tt
none_holds {F} ((true, f) ∷ tests) e = absurd cc
none_holds {F} ((false, f) ∷ tests) e = (refl, none_holds tests e)

pub none_is_found : {F : Type 0} (tests : List (Bool × F)) → NoneHolds tests → first_fault tests ≡ None
none_is_found {F} [] none = refl
none_is_found {F} ((true, f) ∷ tests) none = absurd (let e : true ≡ false = none.0 in cc)
none_is_found {F} ((false, f) ∷ tests) none = none_is_found tests none.1
