-- When each tap is due, one after the other.
use Rattle.std.proofs.Common.{◌≡◌, ℕ, ◌+◌, ◌<◌, zero, suc, List, [], ◌∷◌, ◌++◌, length, map, take, Option, refl, ap, ◌∙◌, arith}
use Rattle.std.specs.Prelude.{slice_get}
use Rattle.std.specs.Option.{option_and_then}
use Rattle.law_model.specs.World.{World}
use Rattle.pb_world.specs.Worlds.{due_at}
use Rattle.law_runs.specs.Bus.{dues}

next_suc : {A : Type 0} (f : A → Option ℕ) (xs : List A) (i : ℕ) → i < length xs → take (suc i) (map f xs) ≡ take i (map f xs) ++ option_and_then f (slice_get xs i) ∷ []
next_suc f [] i small = absurd (omega arith)
next_suc f (x ∷ xs) zero small = refl
next_suc f (x ∷ xs) (suc i) small = ap (λ (l : List (Option ℕ)). f x ∷ l) (next_suc f xs i (omega arith))

pub next_due : (w : World) (tap : ℕ) → tap < length w.taps → take (tap + 1) (dues w) ≡ take tap (dues w) ++ due_at w tap ∷ []
next_due w tap small = let one : tap + 1 ≡ suc tap = omega arith in ap (λ (n : ℕ). take n (dues w)) one ∙ next_suc _ w.taps tap small
