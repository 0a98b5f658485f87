-- The blocks so far, and what the steps that are left do.
use Rattle.std.proofs.Common.{◌≡◌, ◌<◌, ◌+◌, ◌++◌, ◌^◌, length}
use Rattle.std.specs.List.{All}
use Rattle.pb_scenario.specs.Repeats.{happenings, happenings_from}
use Rattle.pb_scenario.specs.Rounds.{IsBlock, blocks_of, count_of}
use Rattle.pb_scenario.specs.Steps.{steps_of}
use Rattle.pb_scenario.proofs.agendas.new_blocks.Given as goal

abbrev pub invariant-loop-left : goal.invariant-loop-left
invariant-loop-left l = record {
  all : blocks_of l.blocks.items ++ happenings_from l.until l.repeats l.place (steps_of l.left) ≡ happenings l.until l.repeats (steps_of l.steps);
  kept : All IsBlock l.blocks.items;
  count : count_of l.blocks.items ≡ l.place;
  whole : l.place + length l.left ≡ length l.steps;
}

abbrev pub decreases-loop-left : goal.decreases-loop-left
decreases-loop-left l = length l.left
