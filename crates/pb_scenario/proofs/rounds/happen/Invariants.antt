-- The rounds so far have happened, and the others are as they were.
use Rattle.std.proofs.Common.{◌≡◌, ◌≤◌, ◌+◌, ◌++◌, drop, length, map, take}
use Rattle.std.specs.List.{All}
use Rattle.std.specs.Vec.{vec_capacity, vec_len}
use Rattle.pb_scenario.specs.Rounds.{IsSteadyRound, deeds_at, others_than, rounds_of}
use Rattle.pb_scenario.specs.Steps.{deed_of}
use Rattle.pb_scenario.proofs.rounds.happen.Given as goal

abbrev pub invariant-loop-place : goal.invariant-loop-place
invariant-loop-place l = record {
  moved : rounds_of (take l.place l.rounds) ≡ others_than l.at (rounds_of (take l.place l.initial.rounds));
  left : drop l.place l.rounds ≡ drop l.place l.initial.rounds;
  today : map (λ d. deed_of d.now) l.today.items ≡ map (λ d. deed_of d.now) l.initial.today.items ++ deeds_at l.at (rounds_of (take l.place l.initial.rounds));
  steady : All IsSteadyRound l.rounds;
  count : length l.rounds ≡ length l.initial.rounds;
  room : vec_capacity l.today ≡ vec_capacity l.initial.today;
  more : vec_len l.today ≤ vec_len l.initial.today + l.place;
}
