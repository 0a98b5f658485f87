-- The stretches so far, and what follows.
use Rattle.std.proofs.Common.{◌≡◌, ◌++◌, drop}
use Rattle.pb_export.specs.Holders.{begun, joined}
use Rattle.pb_export.proofs.holders.tenures_in.Given as goal

abbrev pub invariant-loop-part : goal.invariant-loop-part
invariant-loop-part l =
    l.tenures.items ++ joined l.last (drop l.part-index l.parts) ≡ joined (begun l.from) l.parts
