-- Whether the due taps are found before all turns, or each before its own, is the same.
use Rattle.std.proofs.Common.{◌≡◌, ◌∙◌, ℕ, suc, ◌+◌, Bool, true, false, List, [], ◌∷◌, length, map, Option, Ok, Err, Result, if◌then◌else◌, refl, sym, ap, arith}
use Rattle.std.specs.Prelude.{slice_get}
use Rattle.law_runs.specs.Runs.{Machine, Plan, wants, wanted, places, all, and_then, turns, due_at, one_by_one}
use Rattle.law_runs.specs.Histories.{LeavesOthers}

found : {W E R F : Type 0} (m : Machine W E R F) → LeavesOthers m → (p : Plan E) (now : ℕ) (ds : List (Option ℕ)) (tap : ℕ) (w : W) → ((j : ℕ) → slice_get (m.due w) (tap + j) ≡ slice_get ds j)
    → all m now (map m.turn (places tap (wanted p now tap ds))) w ≡ one_by_one m p now (length ds) tap w
found m law p now [] tap w same = refl
found {W} {E} {R} {F} m law p now (d ∷ ds) tap w same =
    by (λ u. found m law p now ds (tap + 1) u) (wants p now tap d) refl
  where
    here : due_at (slice_get (m.due w) tap) ≡ d
    here = let at : tap ≡ tap + 0 = omega arith in ap (λ i. due_at (slice_get (m.due w) i)) at ∙ ap due_at (same 0)

    later : (j : ℕ) → slice_get (m.due w) ((tap + 1) + j) ≡ slice_get ds j
    later j = let at : (tap + 1) + j ≡ tap + suc j = omega arith in ap (slice_get (m.due w)) at ∙ same (suc j)

    Rest : Type 0
    Rest = (u : W) → ((j : ℕ) → slice_get (m.due u) ((tap + 1) + j) ≡ slice_get ds j) → all m now (map m.turn (places (tap + 1) (wanted p now (tap + 1) ds))) u ≡ one_by_one m p now (length ds) (tap + 1) u

    after : Rest → (o : Result (W × R) F) → m.step w (m.turn tap) ≡ o
        → and_then now o (all m now (map m.turn (places (tap + 1) (wanted p now (tap + 1) ds)))) ≡ and_then now o (one_by_one m p now (length ds) (tap + 1))
    after rest (Err f) step = refl
    after rest (Ok next) step = rest next.0 (λ j. law w next.0 tap ((tap + 1) + j) next.1 (λ e. omega (arith, e)) step ∙ later j)

    tests : wants p now tap (due_at (slice_get (m.due w) tap)) ≡ wants p now tap d
    tests = ap (wants p now tap) here

    by : Rest → (b : Bool) → wants p now tap d ≡ b → all m now (map m.turn (places tap (wanted p now tap (d ∷ ds)))) w ≡ one_by_one m p now (length (d ∷ ds)) tap w
    by rest true is =
        ap (λ b. all m now (map m.turn (if b then tap ∷ places (tap + 1) (wanted p now (tap + 1) ds) else places (tap + 1) (wanted p now (tap + 1) ds))) w) is
        ∙ after rest (m.step w (m.turn tap)) refl
        ∙ sym (ap (λ b. if b then and_then now (m.step w (m.turn tap)) (one_by_one m p now (length ds) (tap + 1)) else one_by_one m p now (length ds) (tap + 1) w) (tests ∙ is))
    by rest false is =
        ap (λ b. all m now (map m.turn (if b then tap ∷ places (tap + 1) (wanted p now (tap + 1) ds) else places (tap + 1) (wanted p now (tap + 1) ds))) w) is
        ∙ rest w later
        ∙ sym (ap (λ b. if b then and_then now (m.step w (m.turn tap)) (one_by_one m p now (length ds) (tap + 1)) else one_by_one m p now (length ds) (tap + 1) w) (tests ∙ is))

pub turns-one-by-one : {W E R F : Type 0} (m : Machine W E R F) → LeavesOthers m → (p : Plan E) (now : ℕ) (w : W) → all m now (turns m p now w) w ≡ one_by_one m p now (length (m.due w)) 0 w
turns-one-by-one m law p now w = found m law p now (m.due w) 0 w (λ j. let at : 0 + j ≡ j = omega arith in ap (slice_get (m.due w)) at)
