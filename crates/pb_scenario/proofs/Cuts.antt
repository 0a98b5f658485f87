-- Steps of the code, cut at a moment.
use Rattle.std.proofs.Common.{◌≡◌, ◌∙◌, ap, sym, subst, refl, arith, ℕ, zero, suc, ◌+◌, ◌≤◌, cond, List, [], ◌∷◌, ◌++◌, take, drop}
use Rattle.std.specs.Prelude.{nat_lt}
use Rattle.std.specs.List.{prefix_len}
use Rattle.law_runs.specs.Scenarios.{Planned}
use Rattle.pb_scenario.specs.declared.deeds.Step.{Step}
use Rattle.pb_scenario.specs.Steps.{planned_of, steps_of}
use Rattle.pb_scenario.specs.Walks.{AreFrom, AreBefore, hold_all, Advances}
use Rattle.pb_scenario.proofs.Left.{before-front, from-back, from-front}

count-steps : (at : ℕ) (steps : List Step) → prefix_len (λ s. nat_lt s.at at) steps ≡ prefix_len (λ s. nat_lt s.at at) (steps_of steps)
count-steps at [] = refl
count-steps at (s ∷ steps) = ap (λ n. cond (nat_lt s.at at) (1 + n) 0) (count-steps at steps)

steps-take : (n : ℕ) (steps : List Step) → steps_of (take n steps) ≡ take n (steps_of steps)
steps-take zero steps = refl
steps-take (suc n) [] = refl
steps-take (suc n) (s ∷ steps) = ap (λ xs. planned_of s ∷ xs) (steps-take n steps)

steps-drop : (n : ℕ) (steps : List Step) → steps_of (drop n steps) ≡ drop n (steps_of steps)
steps-drop zero steps = refl
steps-drop (suc n) [] = refl
steps-drop (suc n) (s ∷ steps) = steps-drop n steps

take-and-drop : (n : ℕ) (steps : List Planned) → steps ≡ take n steps ++ drop n steps
take-and-drop zero steps = refl
take-and-drop (suc n) [] = refl
take-and-drop (suc n) (s ∷ steps) = ap (λ xs. s ∷ xs) (take-and-drop n steps)

-- the front of a cut at a moment, and its back
pub front-before : (at n : ℕ) (steps front : List Step) → n ≡ prefix_len (λ s. nat_lt s.at at) steps → front ≡ take n steps → AreBefore at (steps_of front)
front-before at n steps front count cut =
    subst (AreBefore at) (sym (ap steps_of cut ∙ steps-take n steps ∙ ap (λ k. take k (steps_of steps)) (count ∙ count-steps at steps))) (before-front at (steps_of steps))

pub back-from : (m at n : ℕ) (steps back : List Step) → AreFrom m (steps_of steps) → n ≡ prefix_len (λ s. nat_lt s.at at) steps → back ≡ drop n steps → AreFrom at (steps_of back)
back-from m at n steps back order count cut =
    subst (AreFrom at) (sym (ap steps_of cut ∙ steps-drop n steps ∙ ap (λ k. drop k (steps_of steps)) (count ∙ count-steps at steps))) (from-back m at (steps_of steps) order)

pub before-later : (at m : ℕ) (steps : List Planned) → at ≤ m → AreBefore at steps → AreBefore m steps
before-later at m [] le before = tt
before-later at m (s ∷ steps) le before = (omega (arith, before.0, le), before-later at m steps le before.1)

-- both cuts of an advance
pub advances : (later past left today rest : List Step) (at n k : ℕ) (held mid next : List ℕ) → AreFrom 0 (steps_of later)
    → n ≡ prefix_len (λ s. nat_lt s.at at) later → past ≡ take n later → left ≡ drop n later
    → k ≡ prefix_len (λ s. nat_lt s.at (at + 1)) left → today ≡ take k left → rest ≡ drop k left
    → mid ≡ hold_all held (steps_of past) → next ≡ hold_all mid (steps_of today) → Advances (steps_of later) at (steps_of today) (steps_of rest) held next
advances later past left today rest at n k held mid next order one past_is left_is two today_is rest_is held_past held_today =
    let from_left = back-from 0 at n later left order one left_is in
    let cut_left : steps_of left ≡ steps_of today ++ steps_of rest
    = take-and-drop k (steps_of left) ∙ ap (λ xs. xs ++ drop k (steps_of left)) (sym (ap steps_of today_is ∙ steps-take k left))
    ∙ ap (λ xs. steps_of today ++ xs) (sym (ap steps_of rest_is ∙ steps-drop k left)) in
    let cut_later : steps_of later ≡ steps_of past ++ steps_of left
    = take-and-drop n (steps_of later) ∙ ap (λ xs. xs ++ drop n (steps_of later)) (sym (ap steps_of past_is ∙ steps-take n later))
    ∙ ap (λ xs. steps_of past ++ xs) (sym (ap steps_of left_is ∙ steps-drop n later)) in
    record {
      past = steps_of past;
      cut = cut_later ∙ ap (λ xs. steps_of past ++ xs) cut_left;
      before = front-before at n later past one past_is;
      from = subst (AreFrom at) (sym (ap steps_of today_is ∙ steps-take k left)) (from-front at k (steps_of left) from_left);
      now = front-before (at + 1) k left today two today_is;
      after = back-from at (at + 1) k left rest from_left two rest_is;
      noted = held_today ∙ ap (λ xs. hold_all xs (steps_of today)) held_past;
    }

-- where no step is up to the moment, none is cut off
pub none-yet : (later : List Step) (at : ℕ) (held : List ℕ) → AreFrom (at + 1) (steps_of later) → Advances (steps_of later) at [] (steps_of later) held held
none-yet later at held after = record { past = []; cut = refl; before = tt; from = tt; now = tt; after = after; noted = refl }
