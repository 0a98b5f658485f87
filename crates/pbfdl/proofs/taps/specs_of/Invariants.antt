-- The taps so far are defined, and there is room for all.
use Rattle.std.proofs.Common.{◌≡◌, ◌≤◌, length, map}
use Rattle.std.specs.Prelude.{take}
use Rattle.std.specs.Vec.{vec_capacity}
use Rattle.pb_taps.specs.Taps.{spec_of}
use Rattle.pbfdl.specs.Buses.{tap_spec_of}
use Rattle.pbfdl.proofs.taps.specs_of.Given as goal

abbrev pub invariant-loop-tap : goal.invariant-loop-tap
invariant-loop-tap l =
    record {
      specs : map spec_of l.specs.items ≡ take l.tap-index (map tap_spec_of l.taps);
      count : length l.specs.items ≡ l.tap-index;
      room : length l.taps ≤ vec_capacity l.specs;
    }
