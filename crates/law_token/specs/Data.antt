-- Between two events the data may change with which a tap replies to a request for data.
use Rattle.std.specs.Prelude.{◌≡◌, ℕ, List, slice_get, slice_set, Option, Some, None, Result, Ok, Err}
use Rattle.law_turn.specs.Laws.{Fits}
use Rattle.law_turn.specs.Stations.{Station}
use Rattle.law_model.specs.Medium.{Tap}
use Rattle.law_model.specs.World.{World, Fault, NoSuchTap}
use Rattle.law_runs.specs.Premises.{Waited}
use Rattle.law_token.specs.Invariant.{Invariant}

-- A station with other data. A reply that is not sent yet stays as it is, and a repeat of the last request still gets
-- the reply that it got.
abbrev pub station_with : Station → List ℕ → Station
station_with s unit = record s { cycles = record s.cycles { responder = record s.cycles.responder { reply = unit } } }

abbrev pub tap_with : Tap → List ℕ → Tap
tap_with t unit = record t { spec = record t.spec { reply = unit }; station = station_with t.station unit }

-- the world after the data of a tap have changed, whether it runs or not; nothing else changes
abbrev pub set_data_at : World → ℕ → List ℕ → Option Tap → Result World Fault
set_data_at w tap unit None = Err NoSuchTap
set_data_at w tap unit (Some t) = Ok (record w { taps = slice_set w.taps tap (tap_with t unit) })

abbrev pub set_data : World → ℕ → List ℕ → Result World Fault
set_data w tap unit = set_data_at w tap unit (slice_get w.taps tap)

-- ---- what such a change keeps

-- the invariant of the token theorem: no tap waits out its time-out by it
abbrev pub DataKeepInvariant : Type 0
DataKeepInvariant = (w next : World) (waited : List Waited) (tap : ℕ) (unit : List ℕ) → Fits unit → set_data w tap unit ≡ Ok next → Invariant w waited → Invariant next waited
