-- A bus as the model's plain data.
use Rattle.std.specs.Prelude.{◌≡◌, ◌≤◌, List, [], length, map, Result}
use Rattle.law_model.specs.Behind.{behind}
use Rattle.law_model.specs.Trace.{Entry}
use Rattle.law_model.specs.World.{World, Event, clock_limit, tap_limit}
use Rattle.pb_world.specs.Ends.{AllBy, last_end}
use Rattle.pb_world.specs.Worlds.{Sends}
use Rattle.pb_taps.specs.declared.faults.WorldFault.{WorldFault}
use Rattle.law_model.specs.Laws.{IsSound}
use Rattle.pb_medium.specs.Airs.{IsCut}
use Rattle.pb_medium.specs.Traces.{limit_of, entries_of, over_of}
use Rattle.pb_taps.specs.Taps.{tap_of, seat_of, AreSeated}
use Rattle.pb_world.specs.declared.buses.Bus.{Bus}

abbrev pub world_of : Bus → World
world_of w = record { params = w.params; now = w.now; trace = entries_of w.trace; taps = map tap_of w.taps.items; limit = limit_of w.trace }

-- the same with entries in front that were let go
abbrev pub world_with : List Entry → Bus → World
world_with old w = behind old (world_of w)

-- the invariant of its fields
pub record IsKept (w : Bus) : Type 0 where
  pub sound : IsSound (world_of w)
  pub clock : w.now ≤ clock_limit
  pub room : length w.taps.items ≤ tap_limit
  pub seats : AreSeated w.params 0 (map seat_of w.taps.items)
  pub cut : IsCut w.params.ttd w.now (over_of w.trace) (entries_of w.trace)
  pub ends : AllBy last_end (entries_of w.trace)

-- nothing has happened yet
pub record IsBlank (w : World) : Type 0 where
  pub start : w.now ≡ 0
  pub empty : w.trace ≡ []

-- a bus applies an event, and has what it has sent, or refuses the event
abbrev pub Does : Bus → Event → Result (Unit {0}) WorldFault → Bus → Type 0
Does before event result after = Sends (world_of before) event result after.sent (world_of after)
