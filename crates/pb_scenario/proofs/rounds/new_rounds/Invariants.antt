-- The rounds so far, and what the steps that are left do.
use Rattle.std.proofs.Common.{◌≡◌, ◌≤◌, ◌+◌, ◌++◌, drop, length}
use Rattle.std.specs.List.{All}
use Rattle.std.specs.Vec.{vec_capacity}
use Rattle.pb_scenario.specs.Repeats.{happenings_from}
use Rattle.pb_scenario.specs.Rounds.{IsSteadyRound, rounds_of}
use Rattle.pb_scenario.specs.Steps.{steps_of}
use Rattle.pb_scenario.proofs.rounds.new_rounds.Given as goal

abbrev pub invariant-loop-index : goal.invariant-loop-index
invariant-loop-index l = record {
  all : rounds_of l.rounds.items ++ happenings_from l.until l.repeats (l.place + l.index) (steps_of (drop l.index l.steps)) ≡ happenings_from l.until l.repeats l.place (steps_of l.steps);
  steady : All IsSteadyRound l.rounds.items;
  count : length l.rounds.items ≡ l.index;
  room : length l.steps ≤ vec_capacity l.rounds;
}
