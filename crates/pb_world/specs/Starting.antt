-- The start of a tap.
use Rattle.std.specs.Prelude.{◌≡◌, ℕ, Bool, true, false, ◌||◌, List, [], Some, None, slice_get, slice_set}
use Rattle.std.specs.List.{list_any}
use Rattle.law_turn.specs.Stations.{started}
use Rattle.law_model.specs.Step.{reaches_now}
use Rattle.law_model.specs.Trace.{Entry}
use Rattle.law_model.specs.World.{is_in_air_by}
use Rattle.pb_taps.specs.declared.faults.WorldFault.{WorldFault}
use Rattle.pb_taps.specs.declared.faults.WorldFault.TheVariants as fault
use Rattle.pb_taps.specs.declared.taps.Tap.{Tap}

-- a tap that starts, during something that is reaching it or not
abbrev pub fresh_tap : Tap → Bool → ℕ → Tap
fresh_tap t amid now = record t {
  running = true;
  since = now;
  amid = amid;
  station = record t.station { station = started t.station.params t.station.station t.station.master now };
  marks = [];
}

-- whether a tap runs, or a telegram of its own is among the entries on the bus
abbrev pub is_up : (delay now : ℕ) → List Entry → ℕ → Tap → Bool
is_up delay now entries tap t = t.running || list_any (is_in_air_by delay now tap) entries

-- a tap exists that is down
abbrev pub CanStart : (delay now : ℕ) → List Entry → List Tap → ℕ → Type 0
CanStart delay now entries taps tap = (t : Tap) × (slice_get taps tap ≡ Some t) × (is_up delay now entries tap t ≡ false)

-- the taps after the start of one that was down
abbrev pub IsStarted : (delay now : ℕ) → List Entry → List Tap → ℕ → List Tap → Type 0
IsStarted delay now entries taps tap next = (t : Tap) × (slice_get taps tap ≡ Some t) × (is_up delay now entries tap t ≡ false)
    × (next ≡ slice_set taps tap (fresh_tap t (list_any (reaches_now delay tap now) entries) now))

-- why a start is refused
abbrev pub RefusesStart : (delay now : ℕ) → List Entry → List Tap → ℕ → WorldFault → Type 0
RefusesStart delay now entries taps tap fault.NoSuchTap = slice_get taps tap ≡ None
RefusesStart delay now entries taps tap fault.Running = (t : Tap) × (slice_get taps tap ≡ Some t) × (is_up delay now entries tap t ≡ true)
RefusesStart delay now entries taps tap other = ⊥
