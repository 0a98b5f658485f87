-- The turn of a tap.
use Rattle.std.specs.Prelude.{◌≡◌, ℕ, true, false, List, [], slice_get, slice_set, Option, Some, None}
use Rattle.law_turn.specs.Turns.{turn_of}
use Rattle.pb_taps.specs.declared.faults.WorldFault.{WorldFault}
use Rattle.pb_taps.specs.declared.faults.WorldFault.TheVariants as fault
use Rattle.pb_taps.specs.declared.taps.Tap.{Tap}

-- what the station at a tap sends in its turn
abbrev pub says : Tap → ℕ → Option (List ℕ)
says t now = (turn_of t.station.params t.station.station t.marks now).1

-- a tap after the turn of its station, which reads all its marks; nothing else of the station changes
abbrev pub turned_tap : Tap → ℕ → Tap
turned_tap t now = record t { station = record t.station { station = (turn_of t.station.params t.station.station t.marks now).0 }; marks = [] }

-- the tap at an index runs
abbrev pub Runs : List Tap → ℕ → Type 0
Runs taps tap = (t : Tap) × (slice_get taps tap ≡ Some t) × (t.running ≡ true)

-- the taps after the turn of the one at an index, and what its station sent
abbrev pub TakesTurn : List Tap → ℕ → ℕ → List Tap → Option (List ℕ) → Type 0
TakesTurn taps tap now next said = (t : Tap) × (slice_get taps tap ≡ Some t) × (next ≡ slice_set taps tap (turned_tap t now)) × (said ≡ says t now)

-- why an event that needs a running tap is refused: there is no such tap, or it does not run
abbrev pub RefusesStopped : List Tap → ℕ → WorldFault → Type 0
RefusesStopped taps tap fault.NoSuchTap = slice_get taps tap ≡ None
RefusesStopped taps tap fault.NotRunning = (t : Tap) × (slice_get taps tap ≡ Some t) × (t.running ≡ false)
RefusesStopped taps tap other = ⊥
