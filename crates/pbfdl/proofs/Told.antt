-- What C is told, in the words of the definitions.
use Rattle.std.proofs.Common.{◌≡◌, ◌∙◌, ℕ, zero, suc, ◌+◌, ◌<◌, ◌≤◌, nat_lt, Bool, true, false, List, [], ◌∷◌, length, Option, Some, None, Result, Ok, Err, refl, ap, sym, subst, arith}
use Rattle.std.specs.Prelude.{get_or, slice_get, slice_set, IfErr, IfSome, MatchOption, MatchResult, OnOk}
use Rattle.std.proofs.lemmas.Bool.{ltb-false, ltb-true, le-ltb}
use Rattle.std.proofs.lemmas.List.{get_or-set_other, get_or-set_same}
use Rattle.pb_faults.specs.FirstFault.{first_fault}
use Rattle.law_model.specs.Trace.{Heard}
use Rattle.law_model.specs.World.{clock_limit}
use Rattle.pb_taps.specs.declared.faults.WorldFault.{WorldFault}
use Rattle.pb_world.specs.RunTo.{HasRun, HasStopped}
use Rattle.pb_world.specs.Watched.{world_in}
use Rattle.pb_world.specs.declared.driven.Driven.{Driven}
use Rattle.pb_world.specs.declared.watched.Watched.{Watched}
use Rattle.pbfdl.specs.BusReadings.{heard_at}
use Rattle.pbfdl.specs.Buses.{run_codes, Runs}

-- how a telegram reached one tap more
pub heard-more : (told : List ℕ) (heard : List Heard) (tap v : ℕ) → tap < length told → v ≡ heard_at (slice_get heard tap) → ((k : ℕ) → k < tap → get_or told k 0 ≡ heard_at (slice_get heard k))
    → (k : ℕ) → k < tap + 1 → get_or (slice_set told tap v) k 0 ≡ heard_at (slice_get heard k)
heard-more told heard tap v there is before k small = by (nat_lt k tap) refl
  where
    by : (less : Bool) → nat_lt k tap ≡ less → get_or (slice_set told tap v) k 0 ≡ heard_at (slice_get heard k)
    by true e =
        let lt = ltb-true k tap e in
        get_or-set_other told tap k v 0 (λ (here : k ≡ tap). omega (arith, lt, here)) ∙ before k lt
    by false e =
        let here : k ≡ tap = omega (arith, ltb-false k tap e, small) in
        ap (λ (n : ℕ). get_or (slice_set told tap v) n 0) here ∙ get_or-set_same told tap v 0 there ∙ is ∙ ap (λ (n : ℕ). heard_at (slice_get heard n)) (sym here)

-- a bus runs to a moment that is not before its clock, and not too late
pub runs-free : (b : Driven) (until : ℕ) (P : Type 0) (Q : ℕ → Type 0) → (world_in b.watched).now ≤ until → until ≤ 1000000000000 → P → MatchOption (first_fault (run_codes b until)) P Q
runs-free b until P Q later few p = by (nat_lt until (world_in b.watched).now) (nat_lt clock_limit until) (le-ltb until (world_in b.watched).now later) (le-ltb 1000000000000 until few)
  where
    by : (back far : Bool) → back ≡ false → far ≡ false → MatchOption (first_fault ((back, 42) ∷ (far, 87) ∷ [])) P Q
    by false false one two = p
    by true far one two = absurd cc
    by false true one two = absurd cc

-- what holds of an answer, in both cases
pub answered : {F : Type 0} (r : Result (Unit {0}) F) (P : Type 0) (Q : F → Type 0) → OnOk r P → IfErr r Q → MatchResult r (λ _. P) Q
answered (Ok done) P Q ok err = ok
answered (Err fault) P Q ok err = err

pub ran-by : (b next : Watched) (until : ℕ) (r : Result (Unit {0}) WorldFault) → OnOk r (HasRun until b next) → IfErr r (λ fault. HasStopped until fault b next)
    → MatchResult r (λ _. HasRun until b next) (λ fault. HasStopped until fault b next)
ran-by b next until r ran stopped = answered r (HasRun until b next) (λ fault. HasStopped until fault b next) ran stopped

-- the bus of a handle has run, or is unchanged
pub run-kept : (b next : Driven) (until code : ℕ) (new : Option Driven) → new ≡ Some next
    → MatchOption (first_fault (run_codes b until)) (Runs b until code (Some next)) (λ x. (code ≡ x) × (next ≡ b))
    → MatchOption (first_fault (run_codes b until)) (Runs b until code new) (λ x. (code ≡ x) × (new ≡ Some b))
run-kept b next until code new is = by (first_fault (run_codes b until))
  where
    by : (o : Option ℕ) → MatchOption o (Runs b until code (Some next)) (λ x. (code ≡ x) × (next ≡ b)) → MatchOption o (Runs b until code new) (λ x. (code ≡ x) × (new ≡ Some b))
    by None runs = subst (λ (o : Option Driven). Runs b until code o) (sym is) runs
    by (Some x) same = (same.0, is ∙ ap (λ (w : Driven). Some w) same.1)

-- an item of a list, whatever stands for one that is missing
pub item-of : {X : Type 0} (xs : List X) (i : ℕ) (d e : X) → i < length xs → get_or xs i d ≡ get_or xs i e
item-of [] i d e there = absurd (omega (arith, there))
item-of (x ∷ xs) zero d e there = refl
item-of (x ∷ xs) (suc i) d e there = item-of xs i d e (omega (arith, there))

-- what holds of an option that may be there
pub if-some : (o : Option ℕ) (P : Type 0) (Q : ℕ → Type 0) → MatchOption o P Q → IfSome o Q
if-some None P Q is = tt
if-some (Some x) P Q is = is

pub if-none : (o : Option ℕ) (P : Type 0) (Q : ℕ → Type 0) → o ≡ None → MatchOption o P Q → P
if-none None P Q none is = is
if-none (Some x) P Q none is = absurd cc
