use Rattle.std.proofs.Common.{◌≡◌, map, drop}
use Rattle.pb_medium.specs.Entries.{heard_of}
use Rattle.pb_medium.specs.Making.{is_own_alone}
use Rattle.pb_medium.proofs.making.is_own_alone.Given as goal

-- what is left decides
abbrev pub invariant-loop-tap : goal.invariant-loop-tap
invariant-loop-tap l =
    is_own_alone l.speaker 0 (map heard_of l.heard) ≡ is_own_alone l.speaker l.tap (drop l.tap (map heard_of l.heard))
