-- A trace from anywhere, judged in one pass.
use Rattle.std.proofs.Common.{◌≡◌, ap, refl, arith, ℕ, ◌+◌, ◌≤◌, ◌<◌, List, [], ◌∷◌, true, false, if◌then◌else◌, Option, Some, None, Bool}
use Rattle.std.specs.Prelude.{nat_lt, nat_le, ◌||◌, ◌&&◌, ◌==◌, slice_get}
use Rattle.std.proofs.lemmas.Bool.{ltb-false, leb-false}
use Rattle.law_model.specs.Trace.{Entry, Heard, entry_begin, entry_end, rank, goes_before}
use Rattle.law_runs.specs.Judging.{IsOrdered, IsOrderedFrom}
use Rattle.law_model.specs.Medium.{TapSpec}
use Rattle.law_runs.specs.Legality.{is_whole}
use Rattle.law_runs.specs.Naming.{first_that_heard}
use Rattle.pb_world.specs.Traces.{is_misplaced, misplaced_from, first_misplaced}

-- what is neither is not the first, nor the second
not-first : (a b : Bool) → (a || b) ≡ false → a ≡ false
not-first true b none = none
not-first false b none = refl

not-second : (a b : Bool) → (a || b) ≡ false → b ≡ false
not-second true b none = absurd cc
not-second false b none = none

lasts : (e : Entry) → nat_le (entry_end e) (entry_begin e) ≡ false → entry_begin e < entry_end e
lasts e none = leb-false (entry_end e) (entry_begin e) none

follows : (e x : Entry) → goes_before x e ≡ false → entry_begin e ≤ entry_begin x
follows e x none = ltb-false (entry_begin x) (entry_begin e) (not-first (nat_lt (entry_begin x) (entry_begin e)) (entry_begin x == entry_begin e && nat_lt (rank x) (rank e)) none)

-- a test that stops a walk at a place did not hold where it went on
went-on : (b : Bool) (place : ℕ) (rest : Option ℕ) → (if b then Some place else rest) ≡ None → (b ≡ false) × (rest ≡ None)
went-on true place rest none = absurd cc
went-on false place rest none = (refl, none)

ordered-behind : (e : Entry) (place : ℕ) (es : List Entry) → misplaced_from (Some e) place es ≡ None → IsOrderedFrom (entry_begin e) es
ordered-behind e place [] none = tt
ordered-behind e place (x ∷ es) none =
    let (kept, rest) = went-on (is_misplaced (Some e) x) place (misplaced_from (Some x) (place + 1) es) none in (
      follows e x (not-first (goes_before x e) (nat_le (entry_end x) (entry_begin x)) kept),
      lasts x (not-second (goes_before x e) (nat_le (entry_end x) (entry_begin x)) kept),
      ordered-behind x (place + 1) es rest,
    )

-- a trace of which no entry is misplaced stands in order
pub in-order : (es : List Entry) → first_misplaced es ≡ None → IsOrdered es
in-order [] none = tt
in-order (x ∷ es) none =
    let (kept, rest) = went-on (is_misplaced None x) 0 (misplaced_from (Some x) 1 es) none in (
      omega arith,
      lasts x kept,
      ordered-behind x 1 es rest,
    )

-- a walk over entries stops at a misplaced one, or goes on behind one that isn't
pub stops-at : (before : Option Entry) (place : ℕ) (e : Entry) (es : List Entry) → is_misplaced before e ≡ true → misplaced_from before place (e ∷ es) ≡ Some place
stops-at before place e es bad = ap (λ b. if b then Some place else misplaced_from (Some e) (place + 1) es) bad

pub passes : (before : Option Entry) (place : ℕ) (e : Entry) (es : List Entry) → is_misplaced before e ≡ false
    → misplaced_from before place (e ∷ es) ≡ misplaced_from (Some e) (place + 1) es
passes before place e es good = ap (λ b. if b then Some place else misplaced_from (Some e) (place + 1) es) good

-- a search among taps ends at one that is found, or goes on behind one that isn't
pub found-here : (heard : List Heard) (to tap : ℕ) (spec : TapSpec) (specs : List TapSpec) → (spec.address == to && is_whole (slice_get heard tap)) ≡ true
    → first_that_heard heard to tap (spec ∷ specs) ≡ Some tap
found-here heard to tap spec specs found = ap (λ b. if b then Some tap else first_that_heard heard to (tap + 1) specs) found

pub not-here : (heard : List Heard) (to tap : ℕ) (spec : TapSpec) (specs : List TapSpec) → (spec.address == to && is_whole (slice_get heard tap)) ≡ false
    → first_that_heard heard to tap (spec ∷ specs) ≡ first_that_heard heard to (tap + 1) specs
not-here heard to tap spec specs none = ap (λ b. if b then Some tap else first_that_heard heard to (tap + 1) specs) none
