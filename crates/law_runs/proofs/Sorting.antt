-- Turns of an instant in any order lead where those in the order of the taps lead.
use Rattle.std.proofs.Common.{◌≡◌, sym, subst, refl, arith, ℕ, zero, suc, ◌+◌, List, [], ◌∷◌, map, Bool, true, false, Some}
use Rattle.std.specs.Prelude.{slice_get, slice_set}
use Rattle.law_runs.specs.Runs.{Machine, places}
use Rattle.law_runs.specs.Histories.{Leads, Picks, Commutes, none_left}

-- a turn that comes first goes to its place
put : {W E R F : Type 0} (m : Machine W E R F) → Commutes m → (base : ℕ) (want : List Bool) (n : ℕ) (w v : W) → slice_get want n ≡ Some true
    → Leads m w (map m.turn ((base + n) ∷ places base (slice_set want n false))) v → Leads m w (map m.turn (places base want)) v
unfolding Leads
put m law base [] n w v at leads = absurd cc
put m law base (true ∷ bs) zero w v at leads = let same : base + 0 ≡ base = omega arith in subst (λ k. Leads m w (map m.turn (k ∷ places (base + 1) bs)) v) same leads
put m law base (false ∷ bs) zero w v at leads = absurd cc
put m law base (false ∷ bs) (suc n) w v at leads =
    let same : base + suc n ≡ (base + 1) + n = omega arith in
    put m law (base + 1) bs n w v at (subst (λ k. Leads m w (map m.turn (k ∷ places (base + 1) (slice_set bs n false))) v) same leads)
put m law base (true ∷ bs) (suc n) w v at (u, r, one, (x, q, two, rest)) =
    let same : base + suc n ≡ (base + 1) + n = omega arith in
    let s = law w u x (base + suc n) base r q (λ e. absurd (omega (arith, e))) one two in
    let back : Leads m s.0 (map m.turn ((base + suc n) ∷ places (base + 1) (slice_set bs n false))) v = (x, r, s.2, rest) in
    (s.0, q, s.1, put m law (base + 1) bs n s.0 v at (subst (λ k. Leads m s.0 (map m.turn (k ∷ places (base + 1) (slice_set bs n false))) v) same back))

none_places : (base : ℕ) (want : List Bool) → none_left want ≡ true → places base want ≡ []
none_places base [] none = refl
none_places base (true ∷ bs) none = let wrong : false ≡ true = none in absurd cc
none_places base (false ∷ bs) none = none_places (base + 1) bs none

-- turns of the wanted taps, in any order, lead where those in the order of taps lead
pub in_order : {W E R F : Type 0} (m : Machine W E R F) → Commutes m → (want : List Bool) (taps : List ℕ) (w v : W) → Picks want taps
    → Leads m w (map m.turn taps) v → Leads m w (map m.turn (places 0 want)) v
unfolding Leads Picks
in_order m law want [] w v picks leads = subst (λ ts. Leads m w (map m.turn ts) v) (sym (none_places 0 want picks)) leads
in_order m law want (tap ∷ taps) w v picks (u, r, one, rest) =
    let sorted : Leads m w (map m.turn (tap ∷ places 0 (slice_set want tap false))) v = (u, r, one, in_order m law (slice_set want tap false) taps u v picks.1 rest) in
    let same : tap ≡ 0 + tap = omega arith in
    put m law 0 want tap w v picks.0 (subst (λ k. Leads m w (map m.turn (k ∷ places 0 (slice_set want tap false))) v) same sorted)
