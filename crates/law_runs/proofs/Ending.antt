-- Of a run with an instant for each moment none is left over.
use Rattle.std.proofs.Common.{◌≡◌, refl, arith, ℕ, zero, suc, ◌+◌, ◌<◌, ◌≤◌, nat_lt, nat_le, ◌&&◌, true, false, if◌then◌else◌, Err, List, Bool, Option, Some, None, Ok, Result}
use Rattle.std.proofs.lemmas.Bool.{ltb-true, leb-true}
use Rattle.law_turn.specs.Stations.{earlier}
use Rattle.law_runs.specs.Runs.{Machine, Plan, next, onward, next_turn, passing, on_ok, all, ending, with_front, instant, turns, run}

on_ok-none : {A B F : Type 0} (o : Result A F) (f : A → Option (Result B F)) → on_ok o f ≡ None → (a : A) × (o ≡ Ok a) × (f a ≡ None)
on_ok-none (Ok a) f none = (a, refl, none)
on_ok-none (Err e) f none = absurd cc

with_front-none : {W E F : Type 0} (es : List E) (o : Option (Result (W × List E) F)) → with_front es o ≡ None → o ≡ None
with_front-none es None none = refl
with_front-none es (Some (Err f)) none = absurd cc
with_front-none es (Some (Ok end)) none = absurd cc

ending-none : {W E F : Type 0} (t : Option ℕ) (es : List E) (w : W) (f : ℕ → W → Option (Result (W × List E) F)) → ending t es w f ≡ None → (at : ℕ) × (t ≡ Some at) × (f at w ≡ None)
ending-none None es w f none = absurd cc
ending-none (Some at) es w f none = (at, refl, with_front-none es (f at w) none)

pub onward-some : {E : Type 0} (p : Plan E) (now : ℕ) (o : Option ℕ) (at : ℕ) → onward p now o ≡ Some at → (now < at) × (at ≤ p.until)
onward-some p now None at same = absurd cc
onward-some p now (Some m) at same = by (nat_lt now m) (nat_le m p.until) refl refl same
  where
    by : (a b : Bool) → nat_lt now m ≡ a → nat_le m p.until ≡ b → (if a && b then Some m else None) ≡ Some at → (now < at) × (at ≤ p.until)
    by true true one two same = let is : m ≡ at = cc in (omega (arith, is, ltb-true now m one), omega (arith, is, leb-true m p.until two))
    by true false one two same = absurd cc
    by false true one two same = absurd cc
    by false false one two same = absurd cc

-- of until + 1 instants none is left over: the run ends
pub run-ends : {W E R F : Type 0} (k : ℕ) (m : Machine W E R F) (p : Plan E) (now : ℕ) (w : W) → now ≤ p.until → p.until < now + k → run k m p now w ≡ None → ⊥
unfolding run
run-ends zero m p now w in_time fuel none = omega (arith, in_time, fuel)
run-ends (suc k) m p now w in_time fuel none =
    let a = on_ok-none (all m now (p.early now) w) _ none in
    let b = on_ok-none (all m now (turns m p now a.0) a.0) _ a.2 in
    let c = on_ok-none (all m now (p.late now) b.0) _ b.2 in
    let t = next p now (m.due c.0) (m.change c.0) in
    let d = on_ok-none (all m now (passing m p now t) c.0) _ c.2 in
    let e = ending-none t (instant m p now a.0 c.0) d.0 (run k m p) d.2 in
    let bounds = onward-some p now (earlier (p.later now) (earlier (m.change c.0) (next_turn p now 0 (m.due c.0)))) e.0 e.1 in
    run-ends k m p e.0 d.0 bounds.1 (omega (arith, bounds.0, fuel)) e.2
