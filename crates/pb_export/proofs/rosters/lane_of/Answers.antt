use Rattle.std.proofs.Common.{rules, ◌≡◌, ◌<◌, refl, sym, subst, ℕ, Bool, true, false, length, Option, Some, None}
use Rattle.std.specs.Prelude.{◌==◌, IfSome, nat_lt, if◌then◌else◌}
use Rattle.std.specs.List.{position_or_len}
use Rattle.std.proofs.lemmas.Bool.{ltb-true}
use Rattle.std.proofs.lemmas.Iterator.{YieldsList-from_slice}
use Rattle.std.proofs.lemmas.Iterator.Search.{position_from_yields_List}
use borrow.Author.Tests.{tests}
use Rattle.pb_export.proofs.rosters.lane_of.Goals as goal

within : (n m : ℕ) (b : Bool) → nat_lt n m ≡ b → IfSome (if b then Some n else None) (λ k. k < m)
within n m true less = ltb-true n m less
within n m false past = tt

pub returns-clause-lane : goal.returns-clause-lane
returns-clause-lane c =
    position_from_yields_List (λ (n : ℕ). n == c.args.tap) _ _ _ c.position.ensures.ran (YieldsList-from_slice c.args.lanes.now cc) (λ x b q k. search (rules, tests))

pub returns-clause-bound : goal.returns-clause-bound
returns-clause-bound c =
    let lanes = c.args.lanes.now in
    let test : ℕ → Bool = λ n. n == c.args.tap in
    let is = position_from_yields_List test _ _ _ c.position.ensures.ran (YieldsList-from_slice lanes cc) (λ x b q k. search (rules, tests)) in
    subst (λ (o : Option ℕ). IfSome o (λ k. k < length lanes)) (sym is) (within (position_or_len test lanes) (length lanes) _ refl)
