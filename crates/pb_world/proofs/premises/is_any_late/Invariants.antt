use Rattle.std.proofs.Common.{◌≡◌, ◌+◌}
use Rattle.std.specs.Prelude.{drop}
use Rattle.std.specs.List.{list_any}
use Rattle.law_runs.specs.Premises.{is_late}
use Rattle.pb_world.specs.Buses.{world_of}
use Rattle.pb_world.proofs.premises.is_any_late.Given as goal

-- none so far is late
abbrev pub invariant-loop-tap : goal.invariant-loop-tap
invariant-loop-tap l =
    list_any (is_late l.bus.params (l.bus.now + l.bits)) (world_of l.bus).taps ≡ list_any (is_late l.bus.params (l.bus.now + l.bits)) (drop l.tap (world_of l.bus).taps)
