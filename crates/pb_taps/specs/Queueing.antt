-- A request that is appended at a tap.
use Rattle.std.specs.Prelude.{◌≡◌, ℕ, Bool, true, false, ◌&&◌, nat_le, length, List, Some, None, slice_get, slice_set}
use Rattle.pb_cycles.specs.RequestFields.{RequestFields}
use Rattle.law_turn.specs.Stations.{pushed, list_for}
use Rattle.law_model.specs.World.{queue_limit}
use Rattle.pb_taps.specs.declared.faults.WorldFault.{WorldFault}
use Rattle.pb_taps.specs.declared.faults.WorldFault.TheVariants as fault
use Rattle.pb_taps.specs.declared.taps.Tap.{Tap}

-- a tap whose station has one more request
abbrev pub queued_tap : Tap → RequestFields → Tap
queued_tap t r = record t { station = record t.station { station = pushed t.station.station r } }

-- whether a tap takes requests
abbrev pub takes_requests : Tap → Bool
takes_requests t = t.running && t.station.master

-- whether the list for a request is full at a tap
abbrev pub has_no_room : Tap → RequestFields → Bool
has_no_room t r = nat_le queue_limit (length (list_for t.station.station.cycles.queue r))

-- a tap takes the request, and its list is not full
abbrev pub CanQueue : List Tap → ℕ → RequestFields → Type 0
CanQueue taps tap r = (t : Tap) × (slice_get taps tap ≡ Some t) × (takes_requests t ≡ true) × (has_no_room t r ≡ false)

abbrev pub IsQueued : List Tap → ℕ → RequestFields → List Tap → Type 0
IsQueued taps tap r next = (t : Tap) × (slice_get taps tap ≡ Some t) × (takes_requests t ≡ true) × (has_no_room t r ≡ false) × (next ≡ slice_set taps tap (queued_tap t r))

-- why a request is refused
abbrev pub RefusesQueue : List Tap → ℕ → RequestFields → WorldFault → Type 0
RefusesQueue taps tap r fault.NoSuchTap = slice_get taps tap ≡ None
RefusesQueue taps tap r fault.NotRunning = (t : Tap) × (slice_get taps tap ≡ Some t) × (takes_requests t ≡ false)
RefusesQueue taps tap r fault.QueueFull = (t : Tap) × (slice_get taps tap ≡ Some t) × (takes_requests t ≡ true) × (has_no_room t r ≡ true)
RefusesQueue taps tap r other = ⊥
