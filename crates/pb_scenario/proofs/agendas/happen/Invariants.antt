-- The blocks so far have happened, and the others are as they were.
use Rattle.std.proofs.Common.{◌≡◌, ◌≤◌, ◌+◌, ◌++◌, drop, length, map, take}
use Rattle.std.specs.List.{All}
use Rattle.std.specs.Vec.{vec_capacity, vec_len}
use Rattle.pb_scenario.specs.Rounds.{IsBlock, blocks_of, count_of, deeds_at, others_than}
use Rattle.pb_scenario.specs.Steps.{deed_of}
use Rattle.pb_scenario.proofs.agendas.happen.Given as goal

abbrev pub invariant-loop-place : goal.invariant-loop-place
invariant-loop-place l = record {
  moved : blocks_of (take l.place l.blocks) ≡ others_than l.at (blocks_of (take l.place l.initial.blocks));
  left : drop l.place l.blocks ≡ drop l.place l.initial.blocks;
  today : map (λ d. deed_of d.now) l.today.items ≡ map (λ d. deed_of d.now) l.initial.today.items ++ deeds_at l.at (blocks_of (take l.place l.initial.blocks));
  kept : All IsBlock l.blocks;
  length : length l.blocks ≡ length l.initial.blocks;
  count : count_of l.blocks ≡ count_of l.initial.blocks;
  room : vec_capacity l.today ≡ vec_capacity l.initial.today;
  more : vec_len l.today + count_of (drop l.place l.blocks) ≤ vec_capacity l.today;
}
