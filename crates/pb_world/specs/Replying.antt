-- The change of the data of a tap.
use Rattle.std.specs.Prelude.{◌≡◌, ℕ, List, Some, None, slice_get, slice_set}
use Rattle.pb_station.specs.Stations.{with_reply}
use Rattle.pb_taps.specs.declared.faults.WorldFault.{WorldFault}
use Rattle.pb_taps.specs.declared.faults.WorldFault.TheVariants as fault
use Rattle.pb_taps.specs.declared.taps.Tap.{Tap}

-- a tap whose station replies with other data
abbrev pub replying_tap : Tap → List ℕ → Tap
replying_tap t unit = record t { station = with_reply t.station unit }

-- the taps after the data of the one at an index have changed
abbrev pub RepliesWith : List Tap → ℕ → List ℕ → List Tap → Type 0
RepliesWith taps tap unit next = (t : Tap) × (slice_get taps tap ≡ Some t) × (next ≡ slice_set taps tap (replying_tap t unit))

-- why the data of a tap are not changed: there is no such tap
abbrev pub RefusesReply : List Tap → ℕ → WorldFault → Type 0
RefusesReply taps tap reason = (slice_get taps tap ≡ None) × (reason ≡ fault.NoSuchTap)
