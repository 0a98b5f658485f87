-- Three octets at the front of some memory.
use Rattle.std.proofs.Common.{◌≡◌, refl, sym, subst, ℕ, ◌≤◌, List, [], ◌∷◌, ◌++◌, length, slice_index_or, slice_set, arith}
use Rattle.std.specs.Prelude.{drop, Option, Some}
use Rattle.pb_port.specs.Ports.{Sends}

abbrev with_three : List ℕ → List ℕ → List ℕ
with_three out octets = slice_set (slice_set (slice_set out 0 (slice_index_or octets 0 0)) 1 (slice_index_or octets 1 0)) 2 (slice_index_or octets 2 0)

front-three : (out octets : List ℕ) → 3 ≤ length out → length octets ≡ 3
    → with_three out octets ≡ octets ++ drop 3 out
front-three (x ∷ y ∷ z ∷ out) (a ∷ b ∷ c ∷ []) room long = refl
front-three [] octets room long = absurd (omega (arith, room))
front-three (x ∷ []) octets room long = absurd (omega (arith, room))
front-three (x ∷ y ∷ []) octets room long = absurd (omega (arith, room))
front-three (x ∷ y ∷ z ∷ out) [] room long = absurd (omega (arith, long))
front-three (x ∷ y ∷ z ∷ out) (a ∷ []) room long = absurd (omega (arith, long))
front-three (x ∷ y ∷ z ∷ out) (a ∷ b ∷ []) room long = absurd (omega (arith, long))
front-three (x ∷ y ∷ z ∷ out) (a ∷ b ∷ c ∷ d ∷ rest) room long = absurd (omega (arith, long))

pub sends-three : (sent : Option (List ℕ)) (out octets : List ℕ) → sent ≡ Some octets → 3 ≤ length out → length octets ≡ 3 → Sends sent 3 out (with_three out octets)
sends-three sent out octets is room long =
    subst (λ (s : Option (List ℕ)). Sends s 3 out (with_three out octets)) (sym is) (sym long, front-three out octets room long)
