-- The speakers so far, and what follows.
use Rattle.std.proofs.Common.{◌≡◌, ◌++◌, drop}
use Rattle.pb_export.specs.CaptureSvg.{speakers_from}
use Rattle.pb_export.proofs.speakers.speakers_of.Given as goal

abbrev pub invariant-loop-burst : goal.invariant-loop-burst
invariant-loop-burst l =
    l.speakers.items ++ speakers_from l.asked (drop l.burst-index l.bursts) ≡ speakers_from 127 l.bursts
