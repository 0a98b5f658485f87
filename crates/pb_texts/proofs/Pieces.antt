-- A text that grows by pieces.
use Rattle.std.proofs.Common.{◌≡◌, ◌≢◌, ◌∙◌, ap, true, false, ◌==◌, ◌⊎◌, inl, inr, List, ℕ, ◌++◌, append_assoc}
use Rattle.std.proofs.lemmas.Bool.Decides.{eqb_tells}
use Rattle.std.specs.Prelude.{Result, Ok, Err, OnOk, is_ok, if◌then◌else◌}

-- a piece before what follows
pub front : {E : Type 0} (r : Result (Unit {0}) E) (w x y b c : List ℕ) → x ≡ w ++ b → OnOk r (y ≡ x ++ c) → OnOk r (y ≡ w ++ (b ++ c))
front (Ok done) w x y b c is end = end ∙ ap (λ z. z ++ c) is ∙ append_assoc w b c
front (Err fault) w x y b c is end = tt

-- the last piece, said otherwise
pub last : {E : Type 0} (r : Result (Unit {0}) E) (x y b c : List ℕ) → b ≡ c → OnOk r (y ≡ x ++ b) → OnOk r (y ≡ x ++ c)
last (Ok done) x y b c same end = end ∙ ap (λ z. x ++ z) same
last (Err fault) x y b c same end = tt

-- the last piece of octets
pub octets : {E : Type 0} (r : Result (Unit {0}) E) (x y c : List ℕ) → y ≡ (if is_ok r then x ++ c else x) → OnOk r (y ≡ x ++ c)
octets (Ok done) x y c is = is
octets (Err fault) x y c is = tt

-- one piece more
pub more : (w x y b c : List ℕ) → x ≡ w ++ b → y ≡ x ++ c → y ≡ w ++ (b ++ c)
more w x y b c is next = next ∙ ap (λ z. z ++ c) is ∙ append_assoc w b c

-- what is not 0 is told from it
pub not_zero : (n : ℕ) → (n ≡ 0 → ⊥) → (n == 0) ≡ false
not_zero n some =
    by (eqb_tells n 0)
  where
    by : ((n == 0) ≡ true) × (n ≡ 0) ⊎ ((n == 0) ≡ false) × (n ≢ 0) → (n == 0) ≡ false
    by (inl is) = absurd (some is.1)
    by (inr is) = is.0
