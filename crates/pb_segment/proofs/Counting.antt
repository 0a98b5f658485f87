-- A seat's share counts its receipts, also where its turn may be refused.
use Rattle.std.proofs.Common.{rules, ◌≡◌, ℕ, ◌+◌, List, [], ◌∷◌, ◌++◌, length, arith, Ok}
use Rattle.std.proofs.lemmas.Grind.{common_steps}
use Rattle.std.specs.Prelude.{Result, Err, OnOk, OnErr}
use Rattle.law_model.specs.World.{Event}
use Rattle.pb_segment.specs.Histories.{Receipt}
use Rattle.pb_segment.specs.Locked.{LockedView, AppendsTo}

grown : (before : List Receipt) (r : Receipt) → length before + 1 ≡ length (before ++ r ∷ [])
grown before r = grind (arith, common_steps)

pub still_counted : {T E : Type 0} (result : Result T E) (old new : LockedView) (e : Event) (before after : List Receipt) (was is : ℕ)
    → OnOk result (AppendsTo old new e before after) → OnOk result (is ≡ was + 1)
    → OnErr result ((new ≡ old) × (after ≡ before) × (is ≡ was)) → was ≡ length before → is ≡ length after
still_counted (Ok x) old new e before after was is (r, appends, tells) counts same counted = rw (tells, counts, counted) (grown before r)
still_counted (Err f) old new e before after was is told counts same counted = rw (same.1, same.2) counted
