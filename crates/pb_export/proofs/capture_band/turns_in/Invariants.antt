-- The turns so far, and what follows.
use Rattle.std.proofs.Common.{◌≡◌, ◌++◌, drop, None}
use Rattle.pb_export.specs.CaptureSvg.{joined}
use Rattle.pb_export.proofs.capture_band.turns_in.Given as goal

abbrev pub invariant-loop-part : goal.invariant-loop-part
invariant-loop-part l =
    l.turns.items ++ joined l.last (drop l.part-index l.parts) ≡ joined (record { begin = 0; end = 0; holder = None }) l.parts
