-- Noise on the bus.
use Rattle.std.specs.Prelude.{◌≡◌, ℕ, Bool, true, false, not, ◌==◌, nat_le, ◌&&◌, List}
use Rattle.std.specs.List.{list_any}
use Rattle.law_model.specs.Trace.{Entry, is_noise_at}
use Rattle.pb_taps.specs.declared.faults.WorldFault.{WorldFault}
use Rattle.pb_taps.specs.declared.faults.WorldFault.TheVariants as fault

-- whether there is noise on the bus, among some entries
abbrev pub has_noise : ℕ → List Entry → Bool
has_noise now entries = list_any (is_noise_at now) entries

-- whether there is no room for new noise in a trace of some length
abbrev pub has_no_room : Bool → (limit : ℕ) → ℕ → Bool
has_no_room noisy limit entries = not noisy && nat_le limit entries

-- why noise of some length is refused
abbrev pub RefusesNoise : ℕ → Bool → (limit : ℕ) → ℕ → WorldFault → Type 0
RefusesNoise bits noisy limit entries fault.ZeroTime = (bits == 0) ≡ true
RefusesNoise bits noisy limit entries fault.TraceFull = ((bits == 0) ≡ false) × (has_no_room noisy limit entries ≡ true)
RefusesNoise bits noisy limit entries fault.NoMemory = ((bits == 0) ≡ false) × (has_no_room noisy limit entries ≡ false) × (noisy ≡ false)
RefusesNoise bits noisy limit entries other = ⊥
