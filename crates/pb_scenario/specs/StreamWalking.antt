-- The plain data of a walk through steps that may repeat, and its invariant.
use Rattle.std.specs.Prelude.{◌≤◌, List, length, map}
use Rattle.std.specs.Vec.{vec_capacity}
use Rattle.pb_timers.specs.Timers.{last_moment}
use Rattle.law_runs.specs.Scenarios.{Deed, Planned}
use Rattle.pb_scenario.specs.Repeats.{happenings}
use Rattle.pb_scenario.specs.Rounds.{IsAgenda, IsComing, blocks_of, count_of}
use Rattle.pb_scenario.specs.Steps.{deed_of, steps_of}
use Rattle.pb_scenario.specs.Walks.{WalkView}
use Rattle.pb_scenario.specs.declared.stream_walks.StreamWalk.TheInside.{Inside}

-- the happenings of its steps
abbrev pub steps_in : Inside → List Planned
steps_in w = happenings w.until w.repeats.now (steps_of w.steps.now)

abbrev pub walk_view : Inside → WalkView
walk_view w = record { steps = steps_in w; until = w.until; clock = w.clock; taps = length w.held.items }

pub record IsWalk (w : Inside) : Type 0 where
  pub agenda : IsAgenda w.agenda
  pub coming : IsComing (steps_in w) w.clock (map (λ d. deed_of d.now) w.today.items) (blocks_of w.agenda.blocks.items) w.held.items
  pub room : count_of w.agenda.blocks.items ≤ vec_capacity w.today
  pub in_time : w.clock ≤ w.until
  pub end : w.until ≤ last_moment
