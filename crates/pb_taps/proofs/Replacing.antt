-- A list that is replaced from its front.
use Rattle.std.proofs.Common.{◌≡◌, ℕ, zero, suc, ◌+◌, ◌<◌, ◌≤◌, List, [], ◌∷◌, ◌++◌, length, map, get_or, set, take, drop, refl, ap, sym, ◌∙◌, arith}
use Rattle.std.proofs.lemmas.List.{at_drop_all, take_all, append-nil, length-map, map-set}
use Rattle.std.proofs.Math.ListN.{get_or-map}

replaced-suc : {X : Type 0} (new old : List X) (i : ℕ) (x d : X) → length new ≡ length old → i < length old → x ≡ get_or new i d
    → set (take i new ++ drop i old) i x ≡ take (suc i) new ++ drop (suc i) old
replaced-suc {X} [] old i x d same within is = absurd (omega arith)
replaced-suc {X} (n ∷ new) [] i x d same within is = absurd (omega arith)
replaced-suc {X} (n ∷ new) (o ∷ old) zero x d same within is = ap (λ (y : X). y ∷ old) is
replaced-suc {X} (n ∷ new) (o ∷ old) (suc i) x d same within is =
    ap (λ (more : List X). n ∷ more) (replaced-suc new old i x d (omega arith) (omega arith) is)

-- at the border, one more comes from the new list
pub replaced-more : {X : Type 0} (new old : List X) (i : ℕ) (x d : X) → length new ≡ length old → i < length old → x ≡ get_or new i d
    → set (take i new ++ drop i old) i x ≡ take (i + 1) new ++ drop (i + 1) old
replaced-more {X} new old i x d same within is =
    replaced-suc new old i x d same within is ∙ ap (λ (k : ℕ). take k new ++ drop k old) (let e : suc i ≡ i + 1 = omega arith in e)

-- in the end all of it is new
pub replaced-all : {X : Type 0} (new old : List X) (i : ℕ) → length new ≡ length old → length old ≤ i → take i new ++ drop i old ≡ new
replaced-all {X} new old i same over =
    at_drop_all (λ (rest : List X). take i new ++ rest) old i over ∙ append-nil (take i new) ∙ take_all i new (omega (arith, same))

-- what stands at the border is still old
pub replaced-at : {X : Type 0} (new old : List X) (i : ℕ) (x : X) → length new ≡ length old → i < length old → get_or (take i new ++ drop i old) i x ≡ get_or old i x
replaced-at {X} [] old i x same within = absurd (omega arith)
replaced-at {X} (n ∷ new) [] i x same within = absurd (omega arith)
replaced-at {X} (n ∷ new) (o ∷ old) zero x same within = refl
replaced-at {X} (n ∷ new) (o ∷ old) (suc i) x same within = replaced-at new old i x (omega arith) (omega arith)

-- the same of what a function makes of the list's elements
pub changed-more : {X Y : Type 0} (f : X → Y) (new : List Y) (old now : List X) (i : ℕ) (x : X) (d : Y) → map f now ≡ take i new ++ drop i (map f old)
    → length new ≡ length old → i < length old → f x ≡ get_or new i d → map f (set now i x) ≡ take (i + 1) new ++ drop (i + 1) (map f old)
changed-more {X} {Y} f new old now i x d front same within is =
    map-set f now i x ∙ ap (λ (ys : List Y). set ys i (f x)) front
    ∙ replaced-more new (map f old) i (f x) d (omega (arith, same, length-map old f)) (omega (arith, within, length-map old f)) is

pub changed-all : {X Y : Type 0} (f : X → Y) (new : List Y) (old now : List X) (i : ℕ) → map f now ≡ take i new ++ drop i (map f old)
    → length new ≡ length old → length old ≤ i → map f now ≡ new
changed-all {X} {Y} f new old now i front same over =
    front ∙ replaced-all new (map f old) i (omega (arith, same, length-map old f)) (omega (arith, over, length-map old f))

pub changed-at : {X Y : Type 0} (f : X → Y) (new : List Y) (old now : List X) (i : ℕ) (x : X) → map f now ≡ take i new ++ drop i (map f old)
    → length new ≡ length old → i < length old → f (get_or now i x) ≡ get_or (map f old) i (f x)
changed-at {X} {Y} f new old now i x front same within =
    sym (get_or-map f now i x) ∙ ap (λ (ys : List Y). get_or ys i (f x)) front
    ∙ replaced-at new (map f old) i (f x) (omega (arith, same, length-map old f)) (omega (arith, within, length-map old f))
