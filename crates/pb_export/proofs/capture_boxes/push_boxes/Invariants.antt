-- What was appended so far, and what follows.
use Rattle.std.proofs.Common.{◌≡◌, ◌++◌, drop}
use Rattle.pb_export.specs.CaptureSvg.{boxes}
use Rattle.pb_export.proofs.capture_boxes.push_boxes.Given as goal

abbrev pub invariant-loop-place : goal.invariant-loop-place
invariant-loop-place l =
    l.text.items ++ boxes l.sheet l.lanes (drop l.place l.speakers) (drop l.place l.bursts)
    ≡ l.initial.text.items ++ boxes l.sheet l.lanes l.speakers l.bursts
