-- The telegram has settled at the taps before the position.
use Rattle.std.proofs.Common.{◌≡◌, ◌++◌, map, take, drop, ◌∷◌, []}
use Rattle.law_model.specs.Medium.{heard_by}
use Rattle.law_model.specs.Trace.{Sent}
use Rattle.pb_medium.specs.Entries.{record_of}
use Rattle.pb_taps.specs.Taps.{tap_of}
use Rattle.pb_medium.proofs.settling.heard_alone.Given as goal

abbrev pub invariant-loop-position : goal.invariant-loop-position
invariant-loop-position l =
    l.heard
    ≡ take l.position (heard_by l.delay (Sent (record_of l.telegram) ∷ []) (record_of l.telegram) 0 (map tap_of l.taps) l.telegram.heard) ++ drop l.position l.telegram.heard
