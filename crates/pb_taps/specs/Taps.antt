-- A tap as the model's plain data.
use Rattle.std.specs.Prelude.{◌≡◌, ℕ, ◌+◌, Bool, true, false, List, [], ◌∷◌}
use Rattle.law_model.specs.Medium as model
use Rattle.pb_taps.specs.declared.taps.Kind.{Kind}
use Rattle.pb_taps.specs.declared.taps.Kind.TheVariants.{Master, Passive}
use Rattle.pb_taps.specs.declared.taps.TapSpec.{TapSpec}
use Rattle.pb_taps.specs.declared.taps.Tap.{Tap}
use Rattle.pb_timers.specs.Timers.{Params}
use Rattle.pb_station.specs.Stations.{StationView}

abbrev pub is_master : Kind → Bool
is_master Master = true
is_master Passive = false

abbrev pub spec_of : TapSpec → model.TapSpec
spec_of s = record { address = s.address; master = is_master s.kind; reply = s.reply.items }

-- the definition of a station's tap
abbrev pub spec_at : StationView → model.TapSpec
spec_at s = record { address = s.station.address; master = s.master; reply = s.reply_data }

abbrev pub tap_of : Tap → model.Tap
tap_of t = record {
  spec = spec_at t.station;
  running = t.running;
  since = t.since;
  amid = t.amid;
  station = t.station.station;
  marks = t.marks;
}

-- the position of a station: its tap, and the parameters of its bus
pub record Seat : Type 0 where
  pub tap : ℕ
  pub params : Params

abbrev pub seat_of : Tap → Seat
seat_of t = record { tap = t.station.tap; params = t.station.params }

-- each of some stations is at its tap, the first of them at an index, on a bus with these parameters
abbrev pub AreSeated : Params → ℕ → List Seat → Type 0
AreSeated p tap [] = Unit {0}
AreSeated p tap (s ∷ ss) = (s ≡ record { tap = tap; params = p }) × AreSeated p (tap + 1) ss
