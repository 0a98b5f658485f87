-- The first moment so far and that of the rounds that are left is that of all.
use Rattle.std.proofs.Common.{◌≡◌, drop}
use Rattle.law_turn.specs.Stations.{earlier}
use Rattle.pb_scenario.specs.Rounds.{rounds_of, soonest}
use Rattle.pb_scenario.proofs.rounds.first_of.Given as goal

abbrev pub invariant-loop-round : goal.invariant-loop-round
invariant-loop-round l = earlier l.first (soonest (rounds_of (drop l.round-index l.rounds))) ≡ soonest (rounds_of l.rounds)
