-- What C is told of what a monitor knows of a bus.
use Rattle.std.specs.Prelude.{◌≡◌, ℕ, Bool, unwrap_or, is_some}
use Rattle.pb_monitor.specs.declared.spreads.Spread.{Spread}
use Rattle.pb_monitor.specs.declared.stations.Role.{Role}
use Rattle.pb_monitor.specs.declared.stations.Role.TheVariants.{Unknown, Passive, MasterNotReady, MasterReady, MasterInRing}
use Rattle.pb_monitor.specs.declared.stations.Station.{Station}
use Rattle.pb_monitor.specs.declared.traffic.Traffic.{Traffic}
use Rattle.pbfdl.specs.declared.monitor_readings.FdlSpread.{FdlSpread}
use Rattle.pbfdl.specs.declared.monitor_readings.FdlStationCounts.{FdlStationCounts}
use Rattle.pbfdl.specs.declared.monitor_readings.FdlTraffic.{FdlTraffic}

-- what is counted for the bus, and whether its list of active stations is complete
abbrev pub traffic_of : Traffic → Bool → FdlTraffic
traffic_of t complete = record {
  timed = is_some t.first;
  complete = complete;
  first = unwrap_or t.first 0;
  last = unwrap_or t.last 0;
  busy = t.busy;
  bursts = t.bursts;
  after_loss = t.damaged.after_loss;
  taking = t.damaged.taking;
  replying = t.damaged.replying;
  other = t.damaged.other;
  longest_silence = t.longest_silence;
  alarms = t.alarms;
  refused = t.refused;
}

-- a role as a number
abbrev pub role_number : Role → ℕ
role_number Unknown = 0
role_number Passive = 1
role_number MasterNotReady = 2
role_number MasterReady = 3
role_number MasterInRing = 4

abbrev pub spread_of : Spread → FdlSpread
spread_of s = record { count = s.count; total = s.total; least = s.least; greatest = s.greatest }

-- what is counted for a station, and whether it is in the list of active stations
abbrev pub counts_of : Station → Bool → FdlStationCounts
counts_of s active = record {
  role = role_number s.role;
  active = active;
  timed = is_some s.last_heard;
  last_heard = unwrap_or s.last_heard 0;
  telegrams = s.telegrams;
  tokens = s.tokens;
  claims = s.claims;
  requests = s.requests;
  polls = s.polls;
  repeats = s.repeats;
  unanswered = s.unanswered;
  damaged_answers = s.damaged_answers;
  polled = s.polled;
  tokens_not_taken = s.tokens_not_taken;
  rotation = spread_of s.rotation;
  taking = spread_of s.taking;
  replying = spread_of s.replying;
}

-- what is told is what is counted for some bus
abbrev pub TellsTraffic : FdlTraffic → Type 0
TellsTraffic told = (t : Traffic) × (complete : Bool) × (told ≡ traffic_of t complete)

-- what is told is what is counted for some station
abbrev pub TellsCounts : FdlStationCounts → Type 0
TellsCounts told = (s : Station) × (active : Bool) × (told ≡ counts_of s active)
