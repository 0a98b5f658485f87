-- The entries before the place have settled.
use Rattle.std.proofs.Common.{◌≡◌, ◌++◌, map, take, drop}
use Rattle.law_model.specs.Medium.{entry_at}
use Rattle.pb_medium.specs.Entries.{entry_of}
use Rattle.pb_taps.specs.Taps.{tap_of}
use Rattle.pb_medium.proofs.settling.settle.Given as goal

abbrev pub invariant-loop-place : goal.invariant-loop-place
invariant-loop-place l =
    map entry_of l.entries
    ≡ take l.place (map (entry_at l.delay (map tap_of l.taps) (map entry_of l.initial.entries) l.from l.to) (map entry_of l.initial.entries))
    ++ drop l.place (map entry_of l.initial.entries)
