use Rattle.std.proofs.Common.{◌≡◌, ℕ, length, get_or, nat_lt, if◌then◌else◌}
use Rattle.law_runs.specs.Quiet.{is_active}
use Rattle.pb_world.specs.Buses.{world_of}
use Rattle.pb_world.specs.Premises.{IsOldest}
use Rattle.pb_world.proofs.premises.listen_to.Given as goal

-- the taps before the position have been listened to
abbrev pub invariant-loop-tap : goal.invariant-loop-tap
invariant-loop-tap l =
    record {
      count : length l.quiet ≡ length l.initial.quiet;
      so_far : (k : ℕ) → get_or l.quiet k 0
          ≡ (if nat_lt k l.tap then (if is_active l.bus.params.ttd l.bus.now l.to (world_of l.bus).trace k then l.to else get_or l.initial.quiet k 0) else get_or l.initial.quiet k 0);
      oldest : IsOldest l.oldest l.tap l.quiet;
    }
