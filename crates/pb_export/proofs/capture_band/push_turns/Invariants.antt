-- What was appended so far, and what follows.
use Rattle.std.proofs.Common.{◌≡◌, ◌++◌, drop}
use Rattle.std.specs.List.{flat_map}
use Rattle.pb_export.specs.CaptureSvg.{turn_box}
use Rattle.pb_export.proofs.capture_band.push_turns.Given as goal

abbrev pub invariant-loop-turn : goal.invariant-loop-turn
invariant-loop-turn l =
    l.text.items ++ flat_map (turn_box l.sheet) (drop l.turn-index l.turns)
    ≡ l.initial.text.items ++ flat_map (turn_box l.sheet) l.turns
