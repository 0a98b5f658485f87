-- What was appended so far, and what follows.
use Rattle.std.proofs.Common.{◌≡◌, ◌++◌, map, drop, length}
use Rattle.pb_medium.specs.Entries.{entry_of}
use Rattle.pb_taps.specs.Taps.{spec_of}
use Rattle.pb_export.specs.Rosters.{lanes_from}
use Rattle.pb_export.proofs.rosters.all_lanes.Given as goal

abbrev pub invariant-loop-tap : goal.invariant-loop-tap
invariant-loop-tap l =
    l.lanes.items ++ lanes_from (length l.taps) (map entry_of l.entries) l.tap (drop l.tap (map spec_of l.taps))
    ≡ lanes_from (length l.taps) (map entry_of l.entries) 0 (map spec_of l.taps)
