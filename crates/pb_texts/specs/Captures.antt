-- Whose capture is asked for.
use Rattle.std.specs.Prelude.{◌≡◌, ℕ, List, ◌++◌, codes, slice_get, Some}

-- a tap has the name
abbrev pub IsTaps : List (List ℕ) → List ℕ → Type 0
IsTaps names name = (tap : ℕ) × (slice_get names tap ≡ Some name)

-- no tap has it
abbrev pub IsNoTaps : List (List ℕ) → List ℕ → Type 0
IsNoTaps names name = (tap : ℕ) → slice_get names tap ≡ Some name → ⊥

-- the line that says so
abbrev pub no_tap_line : List ℕ → List ℕ
no_tap_line name = codes "no tap is named " ++ name ++ codes "\n"
