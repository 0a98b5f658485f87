-- What was appended so far, and what follows.
use Rattle.std.proofs.Common.{◌≡◌, ◌++◌, drop}
use Rattle.pb_export.specs.Captures.{bursts_of}
use Rattle.pb_export.proofs.captures.push_bursts.Given as goal

abbrev pub invariant-loop-burst : goal.invariant-loop-burst
invariant-loop-burst l =
    l.bytes.items ++ bursts_of l.export (drop l.burst-index l.bursts) ≡ l.initial.bytes.items ++ bursts_of l.export l.bursts
