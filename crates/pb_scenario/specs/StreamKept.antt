-- The plain data of a scenario whose steps may repeat, and its invariant.
use Rattle.std.specs.Prelude.{◌≤◌}
use Rattle.pb_scenario.specs.Repeats.{AreSteady, StreamView, stream_until}
use Rattle.pb_scenario.specs.declared.stream_scenarios.StreamScenario.TheInside.{Inside}

abbrev pub stream_view : Inside → StreamView
stream_view s = record { once = s.once; repeats = s.repeats.items; until = s.until }

pub record IsStreamScenario (s : Inside) : Type 0 where
  pub steady : AreSteady s.repeats.items
  pub end : s.until ≤ stream_until
