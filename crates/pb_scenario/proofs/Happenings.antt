-- Happenings of a moment, and those after it.
use Rattle.std.proofs.Common.{◌≡◌, ◌≢◌, ◌∙◌, ap, sym, subst, refl, arith, ℕ, zero, suc, ◌+◌, ◌<◌, ◌≤◌, Bool, true, false, cond, not, List, [], ◌∷◌, ◌++◌, length, map, Option, Some, None, max, min}
use Rattle.std.specs.Prelude.{if◌then◌else◌, nat_lt, nat_le, ◌==◌, ◌&&◌, slice_index, replicate, IfSome}
use Rattle.std.specs.List.{filter, filter_map, cons_option}
use Rattle.std.proofs.lemmas.List.{get_or-replicate, length-replicate}
use Rattle.std.proofs.lemmas.Bool.{eqb-false, ltb-true, ltb-false, eqb-true, ne_eqb, eq-eqb, le-leb, lt-leb, lt-ltb, le-ltb}
use Rattle.law_turn.specs.Stations.{earlier}
use Rattle.law_model.specs.World.{Event}
use Rattle.law_runs.specs.Runs.{after, comes, onward, wants}
use Rattle.law_runs.specs.Scenarios.{Deed, Planned, event_before, event_after, deed_holds, holds_until, held_until, next_step, plan_of}
use Rattle.pb_scenario.specs.Coming.{comes_in, onward_to, wants_in}
use Rattle.pb_scenario.specs.Repeats.{series}
use Rattle.pb_scenario.specs.declared.rounds.Round.{Round}
use Rattle.pb_scenario.specs.Rounds.{AreAllFrom, IsComing, IsSteadyRound, deeds_at, hold_deeds, ones_at, others_than, series_of, soonest}
use Rattle.pb_scenario.specs.Steps.{deed_of}
use Rattle.pb_scenario.specs.Walks.{held_by, hold_all, hold_one}
use Rattle.pb_scenario.proofs.Left.{after-none, after-some, get-hold_all, length-hold_all, length-hold_one}

-- ---- moments

pub from-earlier : (m n : ℕ) (steps : List Planned) → n ≤ m → AreAllFrom m steps → AreAllFrom n steps
from-earlier m n [] le from = tt
from-earlier m n (s ∷ steps) le from = (omega (arith, le, from.0), from-earlier m n steps le from.1)

pub from-append : (m : ℕ) (xs ys : List Planned) → AreAllFrom m xs → AreAllFrom m ys → AreAllFrom m (xs ++ ys)
from-append m [] ys from more = more
from-append m (x ∷ xs) ys from more = (from.0, from-append m xs ys from.1 more)

pub from-front : (m : ℕ) (xs ys : List Planned) → AreAllFrom m (xs ++ ys) → AreAllFrom m xs
from-front m [] ys from = tt
from-front m (x ∷ xs) ys from = (from.0, from-front m xs ys from.1)

pub from-back : (m : ℕ) (xs ys : List Planned) → AreAllFrom m (xs ++ ys) → AreAllFrom m ys
from-back m [] ys from = from
from-back m (x ∷ xs) ys from = from-back m xs ys from.1

-- ---- those of a moment, and the others

pub ones-none : (m : ℕ) (steps : List Planned) → AreAllFrom (m + 1) steps → ones_at m steps ≡ []
ones-none m [] from = refl
ones-none m (s ∷ steps) from =
    ap (λ b. cond b (s ∷ ones_at m steps) (ones_at m steps)) (ne_eqb s.at m (λ same. omega (arith, same, from.0))) ∙ ones-none m steps from.1

pub others-all : (m : ℕ) (steps : List Planned) → AreAllFrom (m + 1) steps → others_than m steps ≡ steps
others-all m [] from = refl
others-all m (s ∷ steps) from =
    ap (λ b. cond (not b) (s ∷ others_than m steps) (others_than m steps)) (ne_eqb s.at m (λ same. omega (arith, same, from.0))) ∙ ap (λ ss. s ∷ ss) (others-all m steps from.1)

pub others-later : (m : ℕ) (steps : List Planned) → AreAllFrom m steps → AreAllFrom (m + 1) (others_than m steps)
others-later m [] from = tt
others-later m (s ∷ steps) from = by (others-later m steps from.1) (s.at == m) refl
  where
    by : AreAllFrom (m + 1) (others_than m steps) → (b : Bool) → (s.at == m) ≡ b → AreAllFrom (m + 1) (cond (not b) (s ∷ others_than m steps) (others_than m steps))
    by more true is = more
    by more false is = (let other : s.at ≢ m = eqb-false s.at m is in omega (arith, from.0, other), more)

-- ---- what they say

abbrev said : (Deed → Option Event) → ℕ → List Planned → List Event
said f m steps = filter_map (λ s. if s.at == m then f s.deed else None) steps

said-now : (f : Deed → Option Event) (m : ℕ) (steps : List Planned) → said f m steps ≡ filter_map f (deeds_at m steps)
said-now f m [] = refl
said-now f m (s ∷ steps) = by (s.at == m) (said-now f m steps)
  where
    by : (b : Bool) → said f m steps ≡ filter_map f (deeds_at m steps)
        → cons_option (if b then f s.deed else None) (said f m steps) ≡ filter_map f (map (λ s. s.deed) (cond b (s ∷ ones_at m steps) (ones_at m steps)))
    by true more = ap (cons_option (f s.deed)) more
    by false more = more

said-others : (f : Deed → Option Event) (m n : ℕ) (steps : List Planned) → m < n → said f n steps ≡ said f n (others_than m steps)
said-others f m n [] less = refl
said-others f m n (s ∷ steps) less = by (said-others f m n steps less) (s.at == m) refl
  where
    by : said f n steps ≡ said f n (others_than m steps) → (b : Bool) → (s.at == m) ≡ b → said f n (s ∷ steps) ≡ said f n (cond (not b) (s ∷ others_than m steps) (others_than m steps))
    by more true is = ap (λ b. cons_option (if b then f s.deed else None) (said f n steps)) (ne_eqb s.at n (λ same. omega (arith, same, less, eqb-true s.at m is))) ∙ more
    by more false is = ap (cons_option (if s.at == n then f s.deed else None)) more

said-none : (f : Deed → Option Event) (m : ℕ) (steps : List Planned) → AreAllFrom (m + 1) steps → said f m steps ≡ []
said-none f m [] from = refl
said-none f m (s ∷ steps) from =
    ap (λ b. cons_option (if b then f s.deed else None) (said f m steps)) (ne_eqb s.at m (λ same. omega (arith, same, from.0))) ∙ said-none f m steps from.1

-- ---- the next one

next-others : (m n : ℕ) (steps : List Planned) → m ≤ n → next_step steps n ≡ next_step (others_than m steps) n
next-others m n [] le = refl
next-others m n (s ∷ steps) le = by (next-others m n steps le) (s.at == m) refl
  where
    by : next_step steps n ≡ next_step (others_than m steps) n → (b : Bool) → (s.at == m) ≡ b → next_step (s ∷ steps) n ≡ next_step (cond (not b) (s ∷ others_than m steps) (others_than m steps)) n
    by more true is = ap (λ o. earlier o (next_step steps n)) (after-none n s.at (omega (arith, le, eqb-true s.at m is))) ∙ more
    by more false is = ap (earlier (after n (Some s.at))) more

pub next-soonest : (n : ℕ) (steps : List Planned) → AreAllFrom (n + 1) steps → next_step steps n ≡ soonest steps
next-soonest n [] from = refl
next-soonest n (s ∷ steps) from =
    ap (λ o. earlier o (next_step steps n)) (after-some n s.at (omega (arith, from.0))) ∙ ap (earlier (Some s.at)) (next-soonest n steps from.1)

earlier-none : (o : Option ℕ) → earlier o None ≡ o
earlier-none None = refl
earlier-none (Some a) = refl

pub earlier-assoc : (a b c : Option ℕ) → earlier a (earlier b c) ≡ earlier (earlier a b) c
earlier-assoc None b c = refl
earlier-assoc (Some a) None c = refl
earlier-assoc (Some a) (Some b) None = refl
earlier-assoc (Some a) (Some b) (Some c) = let same : min a (min b c) ≡ min (min a b) c = omega arith in ap (λ n. Some n) same

pub soonest-append : (xs ys : List Planned) → soonest (xs ++ ys) ≡ earlier (soonest xs) (soonest ys)
soonest-append [] ys = refl
soonest-append (x ∷ xs) ys = ap (earlier (Some x.at)) (soonest-append xs ys) ∙ earlier-assoc (Some x.at) (soonest xs) (soonest ys)

-- none is before the first of them
pub from-soonest : (m : ℕ) (steps : List Planned) → IfSome (soonest steps) (λ k. m ≤ k) → AreAllFrom m steps
from-soonest m [] le = tt
from-soonest m (s ∷ steps) le = by (soonest steps) (from-soonest m steps) le
  where
    by : (o : Option ℕ) → (IfSome o (λ k. m ≤ k) → AreAllFrom m steps) → IfSome (earlier (Some s.at) o) (λ k. m ≤ k) → AreAllFrom m (s ∷ steps)
    by None more first = (first, more tt)
    by (Some k) more first = (omega (arith, first), more (omega (arith, first)))

pub soonest-from : (m : ℕ) (steps : List Planned) → AreAllFrom m steps → IfSome (soonest steps) (λ k. m ≤ k)
soonest-from m [] from = tt
soonest-from m (s ∷ steps) from = by (soonest steps) (soonest-from m steps from.1)
  where
    by : (o : Option ℕ) → IfSome o (λ k. m ≤ k) → IfSome (earlier (Some s.at) o) (λ k. m ≤ k)
    by None le = from.0
    by (Some k) le = omega (arith, le, from.0)

-- where the first of them is another moment, all are later
pub from-other : (m : ℕ) (steps : List Planned) → AreAllFrom m steps → soonest steps ≢ Some m → AreAllFrom (m + 1) steps
from-other m steps from other = from-soonest (m + 1) steps (by (soonest steps) other (soonest-from m steps from))
  where
    by : (o : Option ℕ) → o ≢ Some m → IfSome o (λ k. m ≤ k) → IfSome o (λ k. m + 1 ≤ k)
    by None other le = tt
    by (Some k) other le = let differ : k ≢ m = λ same. other (ap (λ n. Some n) same) in omega (arith, le, differ)

-- ---- withholding

held-others : (m n tap : ℕ) (steps : List Planned) → m ≤ n → held_until steps n tap ≡ max (held_by (ones_at m steps) tap) (held_until (others_than m steps) n tap)
held-others m n tap [] le = refl
held-others m n tap (s ∷ steps) le = by (held-others m n tap steps le) (s.at == m) refl
  where
    by : held_until steps n tap ≡ max (held_by (ones_at m steps) tap) (held_until (others_than m steps) n tap) → (b : Bool) → (s.at == m) ≡ b
        → max (holds_until n tap s) (held_until steps n tap)
        ≡ max (held_by (cond b (s ∷ ones_at m steps) (ones_at m steps)) tap) (held_until (cond (not b) (s ∷ others_than m steps) (others_than m steps)) n tap)
    by more true is =
        let one : holds_until n tap s ≡ deed_holds tap s.at s.deed = ap (λ b. if b then deed_holds tap s.at s.deed else 0) (le-leb s.at n (omega (arith, le, eqb-true s.at m is))) in
        omega (arith, one, more)
    by more false is = omega (arith, more)

pub held-from : (m tap : ℕ) (steps : List Planned) → AreAllFrom (m + 1) steps → held_until steps m tap ≡ 0
held-from m tap [] from = refl
held-from m tap (s ∷ steps) from =
    let one : holds_until m tap s ≡ 0 = ap (λ b. if b then deed_holds tap s.at s.deed else 0) (lt-leb s.at m (omega (arith, from.0))) in
    omega (arith, one, held-from m tap steps from.1)

pub hold-ones : (held : List ℕ) (m : ℕ) (steps : List Planned) → hold_all held (ones_at m steps) ≡ hold_deeds held m (deeds_at m steps)
hold-ones held m [] = refl
hold-ones held m (s ∷ steps) = by (λ h. hold-ones h m steps) (s.at == m) refl
  where
    by : ((h : List ℕ) → hold_all h (ones_at m steps) ≡ hold_deeds h m (deeds_at m steps)) → (b : Bool) → (s.at == m) ≡ b → hold_all held (cond b (s ∷ ones_at m steps) (ones_at m steps)) ≡ hold_deeds held m (map (λ s. s.deed) (cond b (s ∷ ones_at m steps) (ones_at m steps)))
    by more true is = ap (λ at. hold_all (hold_one held at s.deed) (ones_at m steps)) (eqb-true s.at m is) ∙ more (hold_one held m s.deed)
    by more false is = more held

pub length-hold_deeds : (held : List ℕ) (m : ℕ) (deeds : List Deed) → length (hold_deeds held m deeds) ≡ length held
length-hold_deeds held m [] = refl
length-hold_deeds held m (d ∷ deeds) = length-hold_deeds (hold_one held m d) m deeds ∙ length-hold_one held m d

pub from-start : (steps : List Planned) → AreAllFrom 0 steps
from-start [] = tt
from-start (s ∷ steps) = (omega arith, from-start steps)

-- ---- what comes

-- the later happenings are cut at their moment
pub coming-next : (steps : List Planned) (at : ℕ) (today : List Deed) (later : List Planned) (held : List ℕ) (m : ℕ) → IsComing steps at today later held → at < m → AreAllFrom m later
    → IsComing steps m (deeds_at m later) (others_than m later) (hold_deeds held m (deeds_at m later))
coming-next steps at today later held m coming less from =
    subst (IsComing steps m (deeds_at m later) (others_than m later)) (hold-ones held m later) (record {
      early = coming.early_later m less ∙ said-now event_before m later;
      late = coming.late_later m less ∙ said-now event_after m later;
      order = others-later m later from;
      early_later = λ n more. coming.early_later n (omega (arith, less, more)) ∙ said-others event_before m n later more;
      late_later = λ n more. coming.late_later n (omega (arith, less, more)) ∙ said-others event_after m n later more;
      next = λ n le. coming.next n (omega (arith, less, le)) ∙ next-others m n later le;
      withheld = λ n tap le there.
          let inside : tap < length held = omega (arith, there, length-hold_all held (ones_at m later)) in
          omega (arith, coming.withheld n tap (omega (arith, less, le)) inside, held-others m n tap later le, get-hold_all held (ones_at m later) tap inside);
    })

-- all happenings, cut at 0
pub coming-first : (steps : List Planned) (taps : ℕ)
    → IsComing steps 0 (deeds_at 0 steps) (others_than 0 steps) (hold_deeds (replicate taps 0) 0 (deeds_at 0 steps))
coming-first steps taps =
    let held = replicate taps 0 in
    subst (IsComing steps 0 (deeds_at 0 steps) (others_than 0 steps)) (hold-ones held 0 steps) (record {
      early = said-now event_before 0 steps;
      late = said-now event_after 0 steps;
      order = others-later 0 steps (from-start steps);
      early_later = λ n more. said-others event_before 0 n steps more;
      late_later = λ n more. said-others event_after 0 n steps more;
      next = λ n le. next-others 0 n steps le;
      withheld = λ n tap le there.
          let inside : tap < length held = omega (arith, there, length-hold_all held (ones_at 0 steps)) in
          let none : slice_index held tap ≡ 0 = get_or-replicate {A = ℕ} taps tap 0 0 (omega (arith, inside, length-replicate {A = ℕ} taps 0)) in
          omega (arith, held-others 0 n tap steps le, get-hold_all held (ones_at 0 steps) tap inside, none);
    })

-- until when a tap is withheld now
pub held-now : (steps : List Planned) (at : ℕ) (today : List Deed) (later : List Planned) (held : List ℕ) (tap : ℕ) → IsComing steps at today later held → tap < length held
    → held_until steps at tap ≡ slice_index held tap
held-now steps at today later held tap coming there = omega (arith, coming.withheld at tap (omega arith) there, held-from at tap later coming.order)

-- the moment of the next step
pub next-now : (steps : List Planned) (at : ℕ) (today : List Deed) (later : List Planned) (held : List ℕ) → IsComing steps at today later held → next_step steps at ≡ soonest later
next-now steps at today later held coming = coming.next at (omega arith) ∙ next-soonest at later coming.order

-- ---- happenings of one step

pub series-from : (at every times : ℕ) (deed : Deed) (m : ℕ) → m ≤ at → AreAllFrom m (series at every times deed)
series-from at every zero deed m le = tt
series-from at every (suc n) deed m le = (le, series-from (at + every) every n deed m (omega (arith, le)))

pub soonest-series : (at every times : ℕ) (deed : Deed) → 0 < times → soonest (series at every times deed) ≡ Some at
soonest-series at every zero deed some = absurd (omega (arith, some))
soonest-series at every (suc n) deed some = by (soonest (series (at + every) every n deed)) (soonest-from at (series (at + every) every n deed) (series-from (at + every) every n deed at (omega arith)))
  where
    by : (o : Option ℕ) → IfSome o (λ k. at ≤ k) → earlier (Some at) o ≡ Some at
    by None le = refl
    by (Some k) le = let least : min at k ≡ at = omega (arith, le) in ap (λ n. Some n) least

-- the first of them is now
pub series-ones : (at every times : ℕ) (deed : Deed) → 0 < times → 1 ≤ every → deeds_at at (series at every times deed) ≡ deed ∷ []
series-ones at every zero deed some steady = absurd (omega (arith, some))
series-ones at every (suc n) deed some steady =
    let rest = series (at + every) every n deed in
    let first : Planned = record { at = at; deed = deed } in
    ap (λ b. map (λ (s : Planned). s.deed) (cond b (first ∷ ones_at at rest) (ones_at at rest))) (eq-eqb at at refl)
    ∙ ap (λ ss. deed ∷ map (λ (s : Planned). s.deed) ss) (ones-none at rest (series-from (at + every) every n deed (at + 1) (omega (arith, steady))))

pub series-others : (at every times left : ℕ) (deed : Deed) → left + 1 ≡ times → 1 ≤ every → others_than at (series at every times deed) ≡ series (at + every) every left deed
series-others at every zero left deed some steady = absurd (omega (arith, some))
series-others at every (suc n) left deed some steady =
    let rest = series (at + every) every n deed in
    let first : Planned = record { at = at; deed = deed } in
    let same : n ≡ left = omega (arith, some) in
    ap (λ b. cond (not b) (first ∷ others_than at rest) (others_than at rest)) (eq-eqb at at refl)
    ∙ others-all at rest (series-from (at + every) every n deed (at + 1) (omega (arith, steady)))
    ∙ ap (λ k. series (at + every) every k deed) same

-- one that is next at a moment stands there
series-now : (at every times : ℕ) (deed : Deed) (m : ℕ) → soonest (series at every times deed) ≡ Some m → (at ≡ m) × (0 < times)
series-now at every zero deed m is = absurd cc
series-now at every (suc n) deed m is =
    let first : Some at ≡ Some m = sym (soonest-series at every (suc n) deed (omega arith)) ∙ is in
    (cc, omega arith)

-- a round that happens at a moment, and the round after that
module _ (r y : Round) (m : ℕ) (now : soonest (series_of r) ≡ Some m) (steady : IsSteadyRound r) where
  pub round-left : y.deed ≡ r.deed → y.at ≡ r.at + r.every → y.every ≡ r.every → y.left + 1 ≡ r.left → series_of y ≡ others_than m (series_of r)
  round-left deed at every left =
      let here = series-now r.at r.every r.left (deed_of r.deed.now) m now in
      ap (λ d. series y.at y.every y.left (deed_of d.now)) deed
      ∙ ap (λ e. series y.at e y.left (deed_of r.deed.now)) every
      ∙ ap (λ a. series a r.every y.left (deed_of r.deed.now)) at
      ∙ sym (series-others r.at r.every r.left y.left (deed_of r.deed.now) left steady.0)
      ∙ ap (λ n. others_than n (series_of r)) here.0

  pub round-does : deeds_at m (series_of r) ≡ deed_of r.deed.now ∷ []
  round-does =
      let here = series-now r.at r.every r.left (deed_of r.deed.now) m now in
      ap (λ n. deeds_at n (series_of r)) (sym here.0) ∙ series-ones r.at r.every r.left (deed_of r.deed.now) here.1 steady.0

  pub round-now : r.at ≡ m
  round-now = (series-now r.at r.every r.left (deed_of r.deed.now) m now).0

  pub round-lasts : 0 < r.left
  round-lasts = (series-now r.at r.every r.left (deed_of r.deed.now) m now).1

-- happenings none of which is at a moment
pub none-at : (m : ℕ) (steps : List Planned) → AreAllFrom m steps → soonest steps ≢ Some m → (steps ≡ others_than m steps) × (deeds_at m steps ≡ [])
none-at m steps from other =
    let later = from-other m steps from other in
    (sym (others-all m steps later), ap (map (λ (s : Planned). s.deed)) (ones-none m steps later))

-- ---- what a walk knows of the plan

pub comes-now : (steps : List Planned) (until at : ℕ) (today : List Deed) (later : List Planned) (held : List ℕ) (tap : ℕ) (due : Option ℕ) → IsComing steps at today later held → tap < length held
    → comes (plan_of steps until) at tap due ≡ comes_in at (slice_index held tap) due
comes-now steps until at today later held tap due coming there = ap (λ n. comes_in at n due) (held-now steps at today later held tap coming there)

pub onward-now : (steps : List Planned) (until at : ℕ) (today : List Deed) (later : List Planned) (held : List ℕ) (other : Option ℕ) → IsComing steps at today later held
    → onward (plan_of steps until) at (earlier (next_step steps at) other) ≡ onward_to until at (earlier (soonest later) other)
onward-now steps until at today later held other coming =
    ap (λ o. onward (plan_of steps until) at (earlier o other)) (next-now steps at today later held coming) ∙ same (earlier (soonest later) other)
  where
    same : (o : Option ℕ) → onward (plan_of steps until) at o ≡ onward_to until at o
    same None = refl
    same (Some m) = refl
