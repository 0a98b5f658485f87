-- What holds of each entry of a trace, and of each tap.
use Rattle.std.specs.Prelude.{◌≡◌, ◌⊎◌, ℕ, List, [], ◌∷◌, slice_get, Some}
use Rattle.law_model.specs.Trace.{Entry}
use Rattle.law_model.specs.Medium.{Tap}

abbrev pub Each : (Entry → Type 0) → List Entry → Type 0
Each P [] = Unit {0}
Each P (e ∷ es) = P e × Each P es

abbrev pub In : Entry → List Entry → Type 0
In e [] = ⊥
In e (x ∷ xs) = (x ≡ e) ⊎ In e xs

abbrev pub EachTap : (Tap → Type 0) → List Tap → Type 0
EachTap P taps = (k : ℕ) (t : Tap) → slice_get taps k ≡ Some t → P t
