-- Taps made from what they are to be.
use Rattle.std.proofs.Common.{◌≡◌, ◌∙◌, ap, arith, ℕ, zero, suc, ◌+◌, ◌<◌, ◌≤◌, List, [], ◌∷◌, length, map, Bool, true, false, if◌then◌else◌, Some}
use Rattle.std.specs.Prelude.{slice_index_or}
use Rattle.pb_timers.specs.Timers.{Params}
use Rattle.law_turn.specs.Laws.{Fits}
use Rattle.law_model.specs.Laws.{AllFit}
use Rattle.law_model.specs.Medium.{TapSpec}
use Rattle.law_model.specs.World.{has_bad_address, first_bad_address}
use Rattle.pb_taps.specs.Taps.{spec_of}
use Rattle.pb_taps.specs.declared.taps.TapSpec as declared

-- the first of what is left, if its address is bad
pub first-bad : (p : Params) (k : ℕ) (s : TapSpec) (left rest : List TapSpec) → left ≡ s ∷ rest → has_bad_address p s ≡ true → first_bad_address p k left ≡ Some k
first-bad p k s left rest here bad = ap (first_bad_address p k) here ∙ ap (λ (b : Bool). if b then Some k else first_bad_address p (k + 1) rest) bad

pub no-bad : (p : Params) (k : ℕ) (s : TapSpec) (left rest : List TapSpec) → left ≡ s ∷ rest → has_bad_address p s ≡ false
    → first_bad_address p k left ≡ first_bad_address p (k + 1) rest
no-bad p k s left rest here good = ap (first_bad_address p k) here ∙ ap (λ (b : Bool). if b then Some k else first_bad_address p (k + 1) rest) good

-- data that fits at each place fits in all
pub all-fit : (specs : List declared.TapSpec) (n : ℕ) → length specs ≤ n → ((k : ℕ) (d : declared.TapSpec) → k < n → Fits (slice_index_or specs k d).reply.items) → AllFit (map spec_of specs)
all-fit [] n all fit = tt
all-fit (s ∷ specs) zero all fit = absurd (omega (arith, all))
all-fit (s ∷ specs) (suc n) all fit = (fit 0 s (omega arith), all-fit specs n (omega (arith, all)) (λ k d below. fit (suc k) d (omega (arith, below))))
