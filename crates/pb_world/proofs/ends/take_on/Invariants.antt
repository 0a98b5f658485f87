use Rattle.std.proofs.Common.{◌≡◌, ℕ, length, get_or, nat_lt, if◌then◌else◌}
use Rattle.std.specs.Prelude.{max}
use Rattle.law_runs.specs.Activity.{active_at}
use Rattle.pb_medium.specs.Entries.{entry_of}
use Rattle.pb_world.proofs.ends.take_on.Given as goal

-- the entry is taken on at the taps before the position
abbrev pub invariant-loop-tap : goal.invariant-loop-tap
invariant-loop-tap l =
    record {
      count : length l.latest ≡ length l.initial.latest;
      so_far : (k : ℕ) → get_or l.latest k 0
          ≡ (if nat_lt k l.tap then max (get_or l.initial.latest k 0) (active_at l.delay k (entry_of l.entry)).end else get_or l.initial.latest k 0);
    }
