-- A telegram that is lost at a tap.
use Rattle.std.specs.Prelude.{◌≡◌, ℕ, Bool, not, ◌==◌, ◌||◌, List}
use Rattle.std.specs.List.{list_any}
use Rattle.law_model.specs.Step.{change_first}
use Rattle.law_model.specs.Trace.{Entry, begins_from, unheard_at}
use Rattle.pb_taps.specs.declared.faults.WorldFault.{WorldFault}
use Rattle.pb_taps.specs.declared.faults.WorldFault.TheVariants as fault

-- no telegram of the speaker begins now among some entries, or the tap is the speaker
abbrev pub has_nothing_to_lose : ℕ → ℕ → ℕ → List Entry → Bool
has_nothing_to_lose tap speaker now entries = tap == speaker || not (list_any (begins_from now speaker) entries)

-- entries with the telegram that the speaker begins now lost at the tap
abbrev pub lost : ℕ → ℕ → ℕ → List Entry → List Entry
lost tap speaker now entries = change_first (begins_from now speaker) (unheard_at tap) entries

abbrev pub IsNothingInAir : WorldFault → Type 0
IsNothingInAir reason = reason ≡ fault.NothingInAir
