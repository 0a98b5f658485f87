-- The first of a list of faults whose test holds.
use Rattle.std.specs.Prelude.{◌≡◌, Bool, true, false, if◌then◌else◌, List, [], ◌∷◌, ◌++◌, Option, Some, None}

-- the first of the faults whose test holds
abbrev pub first_fault : {F : Type 0} → List (Bool × F) → Option F
first_fault [] = None
first_fault (test ∷ tests) = if test.0 then Some test.1 else first_fault tests

-- no test holds
abbrev pub NoneHolds : {F : Type 0} → List (Bool × F) → Type 0
NoneHolds [] = Unit {0}
NoneHolds (test ∷ tests) = (test.0 ≡ false) × NoneHolds tests

-- the test of the fault holds, and no test before it
pub record IsFirst {F : Type 0} (tests : List (Bool × F)) (fault : F) : Type 0 where
  pub before : List (Bool × F)
  pub after : List (Bool × F)
  pub stands : tests ≡ before ++ (true, fault) ∷ after
  pub none_before : NoneHolds before
