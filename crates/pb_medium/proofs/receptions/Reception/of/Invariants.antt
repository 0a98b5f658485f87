use Rattle.std.proofs.Common.{◌≡◌, ◌++◌, map, take, drop}
use Rattle.law_model.specs.Trace.{heard_at_first}
use Rattle.pb_medium.specs.Entries.{heard_of}
use Rattle.pb_medium.proofs.receptions.Reception.of.Given as goal

-- the taps so far are as the list says, and the others as at first
abbrev pub invariant-loop-tap : goal.invariant-loop-tap
invariant-loop-tap l =
    let heard = map heard_of l.heard in l.reception ≡ take l.tap heard ++ drop l.tap (heard_at_first l.speaker 0 heard)
