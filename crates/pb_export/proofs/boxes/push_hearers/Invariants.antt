-- What was appended so far, and what follows.
use Rattle.std.proofs.Common.{◌≡◌, ◌++◌, drop}
use Rattle.pb_export.specs.Boxes.{hearers}
use Rattle.pb_export.proofs.boxes.push_hearers.Given as goal

abbrev pub invariant-loop-lane : goal.invariant-loop-lane
invariant-loop-lane l =
    l.text.items ++ hearers l.scenario l.sheet l.stretch l.telegram.heard l.lane (drop l.lane l.lanes)
    ≡ l.initial.text.items ++ hearers l.scenario l.sheet l.stretch l.telegram.heard 0 l.lanes
