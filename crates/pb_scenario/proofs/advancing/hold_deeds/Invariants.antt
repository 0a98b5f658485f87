-- What the deeds that are left withhold, upon what is noted, is what all withhold.
use Rattle.std.proofs.Common.{◌≡◌, drop, map}
use Rattle.pb_scenario.specs.Rounds.{hold_deeds}
use Rattle.pb_scenario.specs.Steps.{deed_of}
use Rattle.pb_scenario.proofs.advancing.hold_deeds.Given as goal

abbrev pub invariant-loop-deed : goal.invariant-loop-deed
invariant-loop-deed l =
    hold_deeds l.held l.at (map (λ d. deed_of d.now) (drop l.deed-index l.deeds)) ≡ hold_deeds l.initial.held l.at (map (λ d. deed_of d.now) l.deeds)
