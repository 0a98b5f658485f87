-- A glance at a tap of a world, for a worker outside it.
use Rattle.std.specs.Prelude.{◌≡◌, ◌≤◌, ℕ, Some, map, slice_get}
use Rattle.pb_transitions.specs.Clocks.{last_turn}
use Rattle.law_model.specs.Medium as medium
use Rattle.law_model.specs.World.{World}
use Rattle.pb_station.specs.MarkViews.{mark_of, AreOver}
use Rattle.pb_station.specs.Decisions.{DecisionView}
use Rattle.pb_station.specs.Stations.{StationView}
use Rattle.pb_station.specs.declared.decisions.Glance.{Glance}

-- the station at a tap, as a reader sees it
abbrev pub station_at : World → ℕ → medium.Tap → StationView
station_at w tap t = record { tap = tap; params = w.params; master = t.spec.master; reply_data = t.spec.reply; station = t.station }

-- a glance has the station at a tap, its unread marks, and the clock
abbrev pub IsGlance : World → ℕ → Glance → Type 0
IsGlance w tap g = (t : medium.Tap) × (slice_get w.taps tap ≡ Some t)
    × (g.tap ≡ tap) × (g.station ≡ station_at w tap t) × (map mark_of g.marks.items ≡ t.marks) × (g.now ≡ w.now)

-- a turn can be decided from it: the clock is at most 2^61, and no mark has a later moment
abbrev pub CanBeDecided : Glance → Type 0
CanBeDecided g = (g.now ≤ last_turn) × AreOver g.now g.marks.items

-- a decision was computed from the present state of its tap: its station, its unread marks, and the clock
abbrev pub Fits : World → DecisionView → Type 0
Fits w d = (t : medium.Tap) × (slice_get w.taps d.tap ≡ Some t)
    × (d.before ≡ station_at w d.tap t) × (map mark_of d.marks ≡ t.marks) × (d.now ≡ w.now)
