use Rattle.std.proofs.Common.{◌≡◌, ℕ, ◌<◌, ◌≤◌, map}
use Rattle.std.specs.Prelude.{drop, slice_index_or}
use Rattle.pb_timers.specs.Timers.{Params}
use Rattle.law_model.specs.World.{first_bad_address}
use Rattle.pb_taps.specs.Taps.{spec_of}
use Rattle.pb_taps.specs.declared.taps.TapSpec.{TapSpec}
use Rattle.pb_taps.proofs.making.first_bad_address.Given as goal

-- none so far has a bad address
abbrev pub invariant-loop-place : goal.invariant-loop-place
invariant-loop-place l =
    record {
      first : (p : Params) → p.hsa ≡ l.highest → first_bad_address p 0 (map spec_of l.specs) ≡ first_bad_address p l.place (drop l.place (map spec_of l.specs));
      stations : (k : ℕ) (d : TapSpec) → k < l.place → (slice_index_or l.specs k d).address ≤ 126;
    }
