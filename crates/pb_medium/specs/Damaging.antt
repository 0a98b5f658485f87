-- The damage of a telegram on the bus.
use Rattle.std.specs.Prelude.{◌≡◌, ℕ, Bool, true, false, not, ◌==◌, ◌||◌, List, ◌∷◌, ◌+◌, ◌<◌, ◌++◌, length, take, drop, Some, find}
use Rattle.law_model.specs.Step.{has_place, change_first, with_hit}
use Rattle.law_model.specs.Trace.{Entry, Hit}
use Rattle.law_model.specs.World.{is_in_air_by}
use Rattle.pb_taps.specs.declared.faults.WorldFault.{WorldFault}
use Rattle.pb_taps.specs.declared.faults.WorldFault.TheVariants as fault

-- a tap other than the speaker is hit, at a character of a telegram of the speaker that is on the bus
abbrev pub can_hit : (delay speaker now : ℕ) → Hit → List Entry → Bool
can_hit delay speaker now hit entries = not (hit.tap == speaker || not (has_place (find (is_in_air_by delay now speaker) entries) hit.place))

-- entries with the first one on the bus damaged
abbrev pub damaged : (delay speaker now : ℕ) → Hit → List Entry → List Entry
damaged delay speaker now hit entries = change_first (is_in_air_by delay now speaker) (with_hit hit) entries

-- why a hit is refused
abbrev pub RefusesHit : Bool → WorldFault → Type 0
RefusesHit can fault.NothingInAir = can ≡ false
RefusesHit can fault.NoMemory = can ≡ true
RefusesHit can other = ⊥

abbrev pub IsNoMemory : WorldFault → Type 0
IsNoMemory reason = reason ≡ fault.NoMemory

-- the entry at an index is the first that passes a test
abbrev pub IsFirstPlace : (Entry → Bool) → List Entry → ℕ → Type 0
IsFirstPlace test entries place = (e : Entry) × (place < length entries) × (drop place entries ≡ e ∷ drop (place + 1) entries) × (find test entries ≡ Some e)
    × ((change : Entry → Entry) → change_first test change entries ≡ take place entries ++ change e ∷ drop (place + 1) entries)
