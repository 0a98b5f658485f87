-- The plain data of a walk, and its invariant.
use Rattle.std.specs.Prelude.{◌≤◌, length}
use Rattle.pb_timers.specs.Timers.{last_moment}
use Rattle.pb_scenario.specs.Steps.{steps_of}
use Rattle.pb_scenario.specs.Walks.{WalkView, IsLeft}
use Rattle.pb_scenario.specs.declared.walks.Walk.TheInside.{Inside}

abbrev pub walk_view : Inside → WalkView
walk_view w = record { steps = steps_of w.steps.now; until = w.until; clock = w.clock; taps = length w.held.items }

pub record IsWalk (w : Inside) : Type 0 where
  pub left : IsLeft (steps_of w.steps.now) w.clock (steps_of w.today.now) (steps_of w.later.now) w.held.items
  pub in_time : w.clock ≤ w.until
  pub end : w.until ≤ last_moment
