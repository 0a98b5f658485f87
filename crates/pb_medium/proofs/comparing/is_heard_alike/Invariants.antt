use Rattle.std.proofs.Common.{◌≡◌, drop}
use Rattle.std.specs.Prelude.{nat_eq}
use Rattle.std.specs.Cmp.Lexicographic.{pointwise}
use Rattle.std.specs.Ordering.{on}
use Rattle.pb_medium.specs.Comparing.{code_of}
use Rattle.pb_medium.proofs.comparing.is_heard_alike.Given as goal

-- what is left decides
abbrev pub invariant-loop-tap : goal.invariant-loop-tap
invariant-loop-tap l = pointwise (on code_of nat_eq) l.one l.other ≡ pointwise (on code_of nat_eq) (drop l.tap l.one) (drop l.tap l.other)
