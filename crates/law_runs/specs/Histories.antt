-- Histories that are cut into the instants of a plan, with the turns of an instant in any order.
use Rattle.std.specs.Prelude.{◌≡◌, ℕ, zero, suc, ◌+◌, Bool, true, false, ◌&&◌, not, List, [], ◌∷◌, ◌++◌, length, map, take, slice_get, slice_set, Option, Some, None, Ok}
use Rattle.law_runs.specs.Runs.{Machine, Plan, wanted, next, passing}

-- events, all of them accepted, lead from a state to a state
unfoldable pub Leads : {W E R F : Type 0} → Machine W E R F → W → List E → W → Type 0
Leads m w [] last = w ≡ last
Leads {W} {E} {R} {F} m w (e ∷ es) last = (between : W) × (reply : R) × (m.step w e ≡ Ok (between, reply)) × Leads m between es last

-- ---- the turns of an instant

abbrev pub none_left : List Bool → Bool
none_left [] = true
none_left (b ∷ bs) = not b && none_left bs

-- exactly the wanted taps, each once, in some order
unfoldable pub Picks : List Bool → List ℕ → Type 0
Picks wanted [] = none_left wanted ≡ true
Picks wanted (tap ∷ taps) = (slice_get wanted tap ≡ Some true) × Picks (slice_set wanted tap false) taps

-- ---- outlooks

-- what is known of the state after this many events: when each tap is due, and when something else changes
abbrev pub Outlooks : Type 1
Outlooks = ℕ → List (Option ℕ) → Option ℕ → Type 0

-- the facts of the state after a history's first events
abbrev pub IsSoAfter : {W E R F : Type 0} → Machine W E R F → W → List E → Outlooks
IsSoAfter {W} m first history place dues change = (w : W) × Leads m first (take place history) w × (dues ≡ m.due w) × (change ≡ m.change w)

-- what is known of a history is true
abbrev pub AreTrue : {W E R F : Type 0} → Machine W E R F → W → List E → Outlooks → Type 0
AreTrue m first history Knows = (place : ℕ) (dues : List (Option ℕ)) (change : Option ℕ) → Knows place dues change → IsSoAfter m first history place dues change

-- ---- a history, instant by instant

-- a history has no further events if the run ends
abbrev pub EndsOr : {E : Type 0} → Option ℕ → ℕ → List E → (ℕ → ℕ → List E → Type 0) → Type 0
EndsOr None place rest GoesOn = rest ≡ []
EndsOr (Some t) place rest GoesOn = GoesOn t place rest

-- A history from a moment on, after this many events, begins with an instant of the plan and continues from there: the
-- dues are known after the early events, and the next instant after the late ones.
pub record BeginsInstant {W E R F : Type 0} (m : Machine W E R F) (p : Plan E) (Knows : Outlooks) (now place : ℕ) (es : List E) (GoesOn : ℕ → ℕ → List E → Type 0) : Type 0 where
  pub taps : List ℕ
  pub dues : List (Option ℕ)
  pub change : Option ℕ
  pub dues_after : List (Option ℕ)
  pub change_after : Option ℕ
  pub rest : List E
  pub cut : es ≡ p.early now ++ (map m.turn taps ++ (p.late now ++ (passing m p now (next p now dues_after change_after) ++ rest)))
  pub known : Knows (place + length (p.early now)) dues change
  pub turned : Picks (wanted p now 0 dues) taps
  pub known_after : Knows (place + length (p.early now ++ (map m.turn taps ++ p.late now))) dues_after change_after
  pub goes_on : EndsOr (next p now dues_after change_after) (place + length (p.early now ++ (map m.turn taps ++ (p.late now ++ passing m p now (next p now dues_after change_after))))) rest GoesOn

-- a history from a moment on consists of at most this many instants of the plan
unfoldable pub IsRun : {W E R F : Type 0} → ℕ → Machine W E R F → Plan E → Outlooks → ℕ → ℕ → List E → Type 0
IsRun zero m p Knows now place es = ⊥
IsRun (suc k) m p Knows now place es = BeginsInstant m p Knows now place es (λ t at rest. IsRun k m p Knows t at rest)

-- ---- requirements on a machine

-- turns of different taps commute
abbrev pub Commutes : {W E R F : Type 0} → Machine W E R F → Type 0
Commutes {W} {E} {R} {F} m = (w u v : W) (i j : ℕ) (r q : R) → (i ≡ j → ⊥) → m.step w (m.turn i) ≡ Ok (u, r) → m.step u (m.turn j) ≡ Ok (v, q)
    → (x : W) × (m.step w (m.turn j) ≡ Ok (x, q)) × (m.step x (m.turn i) ≡ Ok (v, r))

-- a turn does not change when the other taps are due
abbrev pub LeavesOthers : {W E R F : Type 0} → Machine W E R F → Type 0
LeavesOthers {W} {E} {R} {F} m = (w u : W) (i j : ℕ) (r : R) → (i ≡ j → ⊥) → m.step w (m.turn i) ≡ Ok (u, r) → slice_get (m.due u) j ≡ slice_get (m.due w) j
