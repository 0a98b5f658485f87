-- The parts so far, and what follows.
use Rattle.std.proofs.Common.{◌≡◌, ◌++◌, drop, None}
use Rattle.pb_export.specs.CaptureSvg.{parts_from}
use Rattle.pb_export.proofs.capture_band.parts_of.Given as goal

abbrev pub invariant-loop-burst : goal.invariant-loop-burst
invariant-loop-burst l =
    l.parts.items ++ parts_from l.holder (drop l.burst-index l.bursts) ≡ parts_from None l.bursts
