use Rattle.std.proofs.Common.{◌≡◌, length, take}
use Rattle.law_runs.specs.Bus.{dues}
use Rattle.pb_segment.proofs.outlooks.few_moments.Given as goal

abbrev pub invariant-loop-tap : goal.invariant-loop-tap
invariant-loop-tap l = (l.moments.items ≡ take l.tap (dues l.world)) × (length l.moments.items ≡ l.tap)
