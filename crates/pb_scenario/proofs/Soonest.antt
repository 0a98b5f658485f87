-- The first moment at which some tap may take a turn next, found tap by tap.
use Rattle.std.proofs.Common.{◌≡◌, ◌∙◌, ap, sym, refl, subst, arith, ℕ, zero, suc, ◌+◌, ◌<◌, ◌≤◌, inl, inr, List, [], ◌∷◌, length, map, drop, slice_get, Bool, true, false, ◌&&◌, ◌||◌, if◌then◌else◌, Option, Some, None, Result, Ok, Err}
use Rattle.std.specs.Prelude.{IfSome}
use Rattle.std.specs.List.{list_any}
use Rattle.std.proofs.lemmas.Bool.{cases_lt, le-ltb}
use Rattle.std.specs.Option.{option_and_then}
use Rattle.law_model.specs.Medium.{Tap}
use Rattle.law_model.specs.World.{World, Event, Turn, Pass, Reply, Fault}
use Rattle.law_model.specs.Step.{step}
use Rattle.law_turn.specs.Stations.{due_of, earlier}
use Rattle.law_runs.specs.Runs as runs
use Rattle.law_runs.specs.Runs.{Plan, all, and_then, comes, next_turn}
use Rattle.law_runs.specs.Bus.{bus, due_in, dues}
use Rattle.law_runs.specs.Premises.{comes_late, is_late, is_overdue}
use Rattle.law_runs.proofs.OnTheBus.{turns-leave-others}
use Rattle.pb_world.specs.RunTo.{turn_if}
use Rattle.pb_world.specs.Worlds.{due_at}
use Rattle.pb_scenario.specs.Plays.{NoneBefore}
use Rattle.pb_world.proofs.Instants.{sooner-all, sooner-more}

-- when a tap is due, in other words
pub due-found : (w : World) (tap : ℕ) → runs.due_at (slice_get (dues w) tap) ≡ due_at w tap
due-found w tap = by w.taps tap
  where
    by : (ts : List Tap) (i : ℕ) → runs.due_at (slice_get (map (due_in w) ts) i) ≡ option_and_then (λ t. due_in w t) (slice_get ts i)
    by [] i = refl
    by (t ∷ ts) zero = refl
    by (t ∷ ts) (suc i) = by ts i

-- the taps in front of one are due when they are due in another world
abbrev pub Agrees : ℕ → World → World → Type 0
Agrees n a b = (j : ℕ) → j < n → slice_get (dues a) j ≡ slice_get (dues b) j

-- Of the taps in front of one this is the first moment: so far, whenever those behind are due.
abbrev pub ComesSoFar : Plan Event → (clock n tap : ℕ) → World → Option ℕ → Type 0
ComesSoFar p clock n tap w first =
    (v : World) → length v.taps ≡ n → Agrees tap v w → earlier first (next_turn p clock tap (drop tap (dues v))) ≡ next_turn p clock 0 (dues v)

pub so-far-none : (p : Plan Event) (clock n : ℕ) (w : World) → ComesSoFar p clock n 0 w None
so-far-none p clock n w v count agrees = by (next_turn p clock 0 (dues v))
  where
    by : (o : Option ℕ) → earlier None o ≡ o
    by None = refl
    by (Some m) = refl

pub so-far-more : (p : Plan Event) (clock n tap : ℕ) (w u : World) (first next : Option ℕ) → tap < n → Agrees tap u w → next ≡ earlier first (comes p clock tap (due_at u tap))
    → ComesSoFar p clock n tap w first → ComesSoFar p clock n (tap + 1) u next
so-far-more p clock n tap w u first next less leaves is so_far v count agrees =
    let same : due_at u tap ≡ due_at v tap =
    sym (due-found u tap) ∙ ap (λ o. runs.due_at o) (sym (agrees tap (omega arith))) ∙ due-found v tap in
    sooner-more p clock v tap first next (next_turn p clock 0 (dues v)) (omega (arith, less, count)) (is ∙ ap (λ d. earlier first (comes p clock tap d)) same)
    (so_far v count (λ j front. agrees j (omega (arith, front)) ∙ leaves j front))

pub so-far-all : (p : Plan Event) (clock n tap : ℕ) (w : World) (first : Option ℕ) → n ≤ tap → length w.taps ≡ n → ComesSoFar p clock n tap w first
    → first ≡ next_turn p clock 0 (dues w)
so-far-all p clock n tap w first past count so_far = sooner-all p clock w tap first (next_turn p clock 0 (dues w)) (omega (arith, past, count)) (so_far w count (λ j front. refl))

-- a tap's turn, or none, leaves when those in front of it are due
pub front-due : (now tap : ℕ) (b : Bool) (w u : World) → all bus now (turn_if b tap) w ≡ Ok u → Agrees tap u w
front-due now tap false w u ok j front = let same : w ≡ u = cc in ap (λ (x : World). slice_get (dues x) j) (sym same)
front-due now tap true w u ok j front = by (step w (Turn tap)) refl ok
  where
    by : (o : Result (World × Reply) Fault) → step w (Turn tap) ≡ o → and_then now o (all bus now []) ≡ Ok u → slice_get (dues u) j ≡ slice_get (dues w) j
    by (Err fault) is ok = absurd cc
    by (Ok next) is ok =
        let same : next.0 ≡ u = cc in
        ap (λ (x : World). slice_get (dues x) j) (sym same) ∙ turns-leave-others w next.0 tap j next.1 (λ here. omega (arith, here, front)) is

-- ---- a moment before which no tap is due

-- none of the taps in front of one is
abbrev pub NoneBeforeOf : ℕ → ℕ → World → Type 0
NoneBeforeOf n moment w = (tap : ℕ) → tap < n → IfSome (due_at w tap) (λ at. moment ≤ at)

-- one tap more is not
pub none-more : (tap moment next : ℕ) (w u : World) → Agrees tap u w → next ≤ moment → IfSome (due_at u tap) (λ at. next ≤ at) → NoneBeforeOf tap moment w → NoneBeforeOf (tap + 1) next u
none-more tap moment next w u leaves less here so_far j front = elim (cases_lt j tap) [
  | inl before ↦
      let same : due_at w j ≡ due_at u j = sym (due-found w j) ∙ ap (λ o. runs.due_at o) (sym (leaves j before)) ∙ due-found u j in
      by (due_at u j) (subst (λ o. IfSome o (λ at. moment ≤ at)) same (so_far j before))
  | inr past ↦
      let at_it : tap ≡ j = omega (arith, past, front) in
      subst (λ k. IfSome (due_at u k) (λ at. next ≤ at)) at_it here
]
  where
    by : (o : Option ℕ) → IfSome o (λ at. moment ≤ at) → IfSome o (λ at. next ≤ at)
    by None h = h
    by (Some at) h = omega (arith, h, less)

-- in a pass of time to that moment, or to an earlier one, no turn becomes late
pub passes-in-time : (w : World) (bits moment : ℕ) → NoneBefore moment w → w.now + bits ≤ moment → comes_late w (Pass bits) ≡ false
passes-in-time w bits moment none soon = over w.taps none
  where
    one : (runs : Bool) (due : Option ℕ) → IfSome (if runs then due else None) (λ at. moment ≤ at) → (runs && is_overdue w.params.lag (w.now + bits) due) ≡ false
    one false due h = refl
    one true None h = refl
    one true (Some at) h = le-ltb (at + w.params.lag) (w.now + bits) (omega (arith, h, soon))

    both : (a b : Bool) → a ≡ false → b ≡ false → (a || b) ≡ false
    both false false x y = refl
    both true b x y = absurd cc
    both false true x y = absurd cc

    over : (ts : List Tap) → ((tap : ℕ) → tap < length ts → IfSome (option_and_then (λ t. due_in w t) (slice_get ts tap)) (λ at. moment ≤ at))
        → list_any (is_late w.params (w.now + bits)) ts ≡ false
    over [] h = refl
    over (t ∷ ts) h =
        both (is_late w.params (w.now + bits) t) (list_any (is_late w.params (w.now + bits)) ts) (one t.running (due_of w.params t.station t.marks) (h 0 (omega arith)))
        (over ts (λ tap less. h (suc tap) (omega (arith, less))))
