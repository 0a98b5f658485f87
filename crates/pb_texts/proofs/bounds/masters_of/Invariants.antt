use Rattle.std.proofs.Common.{◌≡◌, ◌≤◌, map}
use Rattle.std.specs.Prelude.{count_by, take}
use Rattle.pb_taps.specs.Taps.{spec_of}
use Rattle.pb_texts.specs.Bounds.{is_master}
use Rattle.pb_texts.proofs.bounds.masters_of.Given as goal

-- the masters among the taps so far
abbrev pub invariant-loop-tap : goal.invariant-loop-tap
invariant-loop-tap l =
    record {
      few : l.masters ≤ l.tap-index;
      so_far : l.masters ≡ count_by is_master (take l.tap-index (map spec_of l.taps));
    }
