-- The last end so far, and what follows.
use Rattle.std.proofs.Common.{◌≡◌, drop}
use Rattle.pb_export.specs.CaptureSvg.{last_end}
use Rattle.pb_export.proofs.capture_svg.last_end.Given as goal

abbrev pub invariant-loop-burst : goal.invariant-loop-burst
invariant-loop-burst l =
    last_end l.last (drop l.burst-index l.bursts) ≡ last_end 0 l.bursts
