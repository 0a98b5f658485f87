use Rattle.std.proofs.Common.{◌≡◌, ◌<◌, ℕ, false, get_or, length}
use Rattle.std.specs.Prelude.{slice_get}
use Rattle.law_runs.specs.Legality.{is_whole}
use Rattle.pb_medium.specs.Entries.{record_of}
use Rattle.pb_world.proofs.judge.whole_at.Given as goal

abbrev pub invariant-loop-tap : goal.invariant-loop-tap
invariant-loop-tap l =
    record {
      size : length l.whole ≡ 127;
      so_far : (k : ℕ) → k < l.tap → get_or l.whole k false ≡ is_whole (slice_get (record_of l.telegram).heard k);
    }
