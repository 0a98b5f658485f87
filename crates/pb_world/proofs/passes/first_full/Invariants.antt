-- The first full tap is among those from the position on.
use Rattle.std.proofs.Common.{◌≡◌, map, drop}
use Rattle.law_model.specs.Step as step
use Rattle.pb_medium.specs.Entries.{entry_of}
use Rattle.law_model.specs.Step.{told}
use Rattle.pb_taps.specs.Taps.{tap_of}
use Rattle.pb_world.proofs.passes.first_full.Given as goal

abbrev pub invariant-loop-position : goal.invariant-loop-position
invariant-loop-position l =
    step.first_full 0 (told l.delay (map entry_of l.entries) l.from l.to 0 (map tap_of l.taps))
    ≡ step.first_full l.position (told l.delay (map entry_of l.entries) l.from l.to l.position (map tap_of (drop l.position l.taps)))
