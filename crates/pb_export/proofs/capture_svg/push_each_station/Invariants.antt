-- What was appended so far, and what follows.
use Rattle.std.proofs.Common.{◌≡◌, ◌++◌, drop}
use Rattle.pb_export.specs.CaptureSvg.{stations_from}
use Rattle.pb_export.proofs.capture_svg.push_each_station.Given as goal

abbrev pub invariant-loop-lane : goal.invariant-loop-lane
invariant-loop-lane l =
    l.text.items ++ stations_from l.sheet l.strip l.lane (drop l.lane l.lanes) ≡ l.initial.text.items ++ stations_from l.sheet l.strip 0 l.lanes
