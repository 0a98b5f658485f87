use Rattle.std.proofs.Common.{◌≡◌, false, map, length}
use Rattle.std.specs.Prelude.{drop}
use Rattle.law_runs.specs.Premises.{has_namesakes}
use Rattle.pb_taps.specs.Taps.{tap_of}
use Rattle.pb_world.proofs.Premising.{RunAt}
use Rattle.pb_world.proofs.premises.has_namesakes.Given as goal

-- none behind has a namesake, and they run at the addresses that are noted
abbrev pub invariant-loop-place : goal.invariant-loop-place
invariant-loop-place l =
    record {
      none : has_namesakes (drop l.place (map tap_of l.taps)) ≡ false;
      noted : RunAt l.running_at (drop l.place (map tap_of l.taps));
      size : length l.running_at ≡ 127;
    }
