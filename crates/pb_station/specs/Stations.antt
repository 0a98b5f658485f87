-- A station, as contracts see it.
use Rattle.std.specs.Prelude.{ℕ, Bool, List}
use Rattle.pb_timers.specs.Timers.{Params}
use Rattle.law_turn.specs.Stations as turn
use Rattle.pb_transitions.specs.Cores.{station_of}
use Rattle.pb_station.specs.declared.stations.Station.TheInside.{Inside}

pub record StationView : Type 0 where
  pub tap : ℕ  -- the position of its tap, counted from 0
  pub params : Params
  pub master : Bool
  pub reply_data : List ℕ  -- what it replies to a request for data
  pub station : turn.Station

abbrev pub station_view : Inside → StationView
station_view s =
    let parts = s.parts.value in
    record { tap = parts.tap; params = parts.params; master = parts.master; reply_data = parts.reply_data.items; station = station_of parts.core }

-- a station that replies to a request for data with other data
abbrev pub with_reply : StationView → List ℕ → StationView
with_reply s reply =
    let cycles = s.station.cycles in
    record s { reply_data = reply; station = record s.station { cycles = record cycles { responder = record cycles.responder { reply = reply } } } }
