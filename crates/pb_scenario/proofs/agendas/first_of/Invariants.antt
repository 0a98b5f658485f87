-- The first moment so far and that of the blocks that are left is that of all.
use Rattle.std.proofs.Common.{◌≡◌, drop}
use Rattle.law_turn.specs.Stations.{earlier}
use Rattle.pb_scenario.specs.Rounds.{blocks_of, soonest}
use Rattle.pb_scenario.proofs.agendas.first_of.Given as goal

abbrev pub invariant-loop-block : goal.invariant-loop-block
invariant-loop-block l = earlier l.first (soonest (blocks_of (drop l.block-index l.blocks))) ≡ soonest (blocks_of l.blocks)
