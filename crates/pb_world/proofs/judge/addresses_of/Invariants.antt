use Rattle.std.proofs.Common.{◌≡◌, map, take}
use Rattle.pb_taps.specs.declared.taps.TapSpec.{TapSpec}
use Rattle.pb_world.proofs.judge.addresses_of.Given as goal

abbrev pub invariant-loop-tap : goal.invariant-loop-tap
invariant-loop-tap l = l.addresses.items ≡ take l.tap-index (map (λ (t : TapSpec). t.address) l.taps)
