-- The stop of a tap.
use Rattle.std.specs.Prelude.{◌≡◌, ℕ, true, false, List, [], Some, slice_get, slice_set}
use Rattle.law_turn.specs.Stations.{stopped}
use Rattle.pb_taps.specs.declared.taps.Tap.{Tap}

-- a tap that stops drops its unread marks
abbrev pub halted_tap : Tap → Tap
halted_tap t = record t { running = false; station = record t.station { station = stopped t.station.station }; marks = [] }

-- the taps after the stop of one that ran
abbrev pub IsStopped : List Tap → ℕ → List Tap → Type 0
IsStopped taps tap next = (t : Tap) × (slice_get taps tap ≡ Some t) × (t.running ≡ true) × (next ≡ slice_set taps tap (halted_tap t))
