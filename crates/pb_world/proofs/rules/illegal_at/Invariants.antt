-- The ends of what has come so far.
use Rattle.std.proofs.Common.{ℕ, map, drop, take}
use Rattle.law_runs.specs.Judging.{IsOrderedFrom}
use Rattle.pb_medium.specs.Entries.{entry_of}
use Rattle.pb_world.specs.LatestEnds.{AreEnds}
use Rattle.pb_world.proofs.rules.illegal_at.Given as goal

abbrev pub invariant-loop-place : goal.invariant-loop-place
invariant-loop-place l =
    (before : ℕ) × AreEnds l.params.ttd before (take l.place (map entry_of l.trace)) l.ends × IsOrderedFrom before (drop l.place (map entry_of l.trace))
