-- The two halves of a station's turn.
use Rattle.std.specs.Prelude.{ℕ, List, Option, None, Some, Bool, false, nat_le}
use Rattle.law_turn.specs.Marks as turn
use Rattle.law_turn.specs.Stations.{speaks_at}
use Rattle.law_turn.specs.Turns.{settled, speech}
use Rattle.pb_station.specs.Stations.{StationView}

-- a station that has read its marks, and its timers up to the clock
abbrev pub at_clock : StationView → List turn.Mark → ℕ → StationView
at_clock before marks now = record before { station = settled before.params before.station marks now }

-- whether a moment has come
abbrev pub has_come : Option ℕ → ℕ → Bool
has_come None now = false
has_come (Some moment) now = nat_le moment now

-- a station at the clock after it has spoken, if its moment has come, and what it sends
abbrev pub spoken : StationView → ℕ → StationView × Option (List ℕ)
spoken before now =
    let said = speech before.params before.station (speaks_at before.station) now in
    (record before { station = said.0 }, said.1)
