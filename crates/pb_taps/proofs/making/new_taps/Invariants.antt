use Rattle.std.proofs.Common.{◌≡◌, ◌≤◌, ◌<◌, ℕ, length, map}
use Rattle.std.specs.Prelude.{take, slice_index_or}
use Rattle.std.specs.Vec.{vec_capacity}
use Rattle.law_turn.specs.Laws.{Fits}
use Rattle.law_model.specs.World.{stopped_tap}
use Rattle.pb_taps.specs.Taps.{spec_of, seat_of, tap_of, AreSeated}
use Rattle.pb_taps.specs.declared.taps.TapSpec.{TapSpec}
use Rattle.pb_taps.proofs.making.new_taps.Given as goal

abbrev pub invariant-loop-tap : goal.invariant-loop-tap
invariant-loop-tap l =
    record {
      taps : map tap_of l.taps.items ≡ map (stopped_tap l.params) (take l.tap (map spec_of l.specs));
      seats : AreSeated l.params 0 (map seat_of l.taps.items);
      fit : (k : ℕ) (d : TapSpec) → k < l.tap → Fits (slice_index_or l.specs k d).reply.items;
      count : length l.taps.items ≡ l.tap;
      room : length l.specs ≤ vec_capacity l.taps;
    }
