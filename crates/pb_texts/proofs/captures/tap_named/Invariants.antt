-- No tap before has the name.
use Rattle.std.proofs.Common.{◌≡◌, Some, slice_get, ℕ, ◌<◌}
use Rattle.pb_texts.proofs.captures.tap_named.Given as goal

abbrev pub invariant-loop-tap : goal.invariant-loop-tap
invariant-loop-tap l = (i : ℕ) → i < l.tap → slice_get l.scenario.names i ≡ Some l.name → ⊥
