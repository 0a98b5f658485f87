-- A glance at a tap, for a worker outside its bus.
use Rattle.std.specs.Prelude.{◌≡◌, ℕ, List, Some, map, slice_get}
use Rattle.pb_station.specs.Decisions.{DecisionView}
use Rattle.pb_station.specs.MarkViews.{mark_of}
use Rattle.pb_station.specs.declared.decisions.Glance.{Glance}
use Rattle.pb_taps.specs.declared.taps.Tap.{Tap}

-- a glance has the station of the tap at an index, its unread marks, and the clock
abbrev pub Shows : Tap → ℕ → ℕ → Glance → Type 0
Shows t position now g = (g.tap ≡ position) × (g.station ≡ t.station) × (map mark_of g.marks.items ≡ t.marks) × (g.now ≡ now)

-- a decision was computed from the present state of a tap: its station, its unread marks, and the clock
abbrev pub WasMadeOn : Tap → ℕ → DecisionView → Type 0
WasMadeOn t now d = (d.before ≡ t.station) × (map mark_of d.marks ≡ t.marks) × (d.now ≡ now)

-- a decision was computed from the present state of the tap with its index
abbrev pub FitsTap : List Tap → ℕ → DecisionView → Type 0
FitsTap taps now d = (t : Tap) × (slice_get taps d.tap ≡ Some t) × WasMadeOn t now d
