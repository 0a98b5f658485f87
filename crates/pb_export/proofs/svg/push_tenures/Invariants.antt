-- What was appended so far, and what follows.
use Rattle.std.proofs.Common.{◌≡◌, ◌++◌, drop}
use Rattle.std.specs.List.{flat_map}
use Rattle.pb_export.specs.Boxes.{tenure_box}
use Rattle.pb_export.proofs.svg.push_tenures.Given as goal

abbrev pub invariant-loop-tenure : goal.invariant-loop-tenure
invariant-loop-tenure l =
    l.text.items ++ flat_map (tenure_box l.scenario l.sheet) (drop l.tenure-index l.tenures)
    ≡ l.initial.text.items ++ flat_map (tenure_box l.scenario l.sheet) l.tenures
