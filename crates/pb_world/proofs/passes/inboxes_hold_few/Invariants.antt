-- No tap before the position is full.
use Rattle.std.proofs.Common.{◌≡◌, map, drop}
use Rattle.law_model.specs.Step as step
use Rattle.pb_taps.specs.Taps.{tap_of}
use Rattle.pb_world.proofs.passes.inboxes_hold_few.Given as goal

abbrev pub invariant-loop-position : goal.invariant-loop-position
invariant-loop-position l = step.first_full 0 (map tap_of l.taps) ≡ step.first_full l.position (map tap_of (drop l.position l.taps))
