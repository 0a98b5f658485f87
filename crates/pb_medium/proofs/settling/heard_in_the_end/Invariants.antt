-- The telegram has settled at the taps before the position.
use Rattle.std.proofs.Common.{◌≡◌, ◌++◌, map, take, drop}
use Rattle.law_model.specs.Medium.{heard_by}
use Rattle.pb_medium.specs.Entries.{entry_of, record_of}
use Rattle.pb_taps.specs.Taps.{tap_of}
use Rattle.pb_medium.proofs.settling.heard_in_the_end.Given as goal

abbrev pub invariant-loop-position : goal.invariant-loop-position
invariant-loop-position l =
    l.heard
    ≡ take l.position (heard_by l.delay (map entry_of l.entries) (record_of l.telegram) 0 (map tap_of l.taps) l.telegram.heard) ++ drop l.position l.telegram.heard
