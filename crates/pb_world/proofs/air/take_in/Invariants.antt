use Rattle.std.proofs.Common.{◌≡◌, ℕ, length, get_or, nat_lt, if◌then◌else◌}
use Rattle.std.specs.Prelude.{max}
use Rattle.law_runs.specs.Activity.{active_at}
use Rattle.pb_world.specs.Airtimes.{air_of}
use Rattle.pb_world.proofs.air.take_in.Given as goal

-- the entry is taken in at the taps before the position
abbrev pub invariant-loop-tap : goal.invariant-loop-tap
invariant-loop-tap l =
    record {
      count : length l.ends ≡ length l.initial.ends;
      so_far : (k : ℕ) → get_or l.ends k 0
          ≡ (if nat_lt k l.tap then max (get_or l.initial.ends k 0) (active_at l.delay k (air_of l.airtime)).end else get_or l.initial.ends k 0);
    }
