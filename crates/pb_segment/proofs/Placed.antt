-- Where the events of blocks stand.
use Rattle.std.proofs.Common.{◌≡◌, ℕ, zero, suc, ◌+◌, ◌*◌, ◌<◌, List, [], ◌∷◌, ◌++◌, length, Some, refl, ap, sym, ◌∙◌, arith}
use Rattle.std.specs.Prelude.{slice_get}
use Rattle.std.specs.List.{flat_map}
use Rattle.std.proofs.lemmas.Grind.{common_steps, elements}
use Rattle.std.proofs.lemmas.List.{length-append, append_assoc}
use Rattle.std.proofs.lemmas.Option.{same_Some}
use Rattle.pb_segment.specs.declared.blocks.Block.{Block}
use Rattle.pb_segment.specs.Histories.{Happened}

abbrev pub all_of : List Block → List Happened
all_of bs = flat_map (λ (k : Block). k.happened.items) bs

pub length_of : (bs : List Block) → length (all_of bs) ≡ 1024 * length bs
length_of [] = refl
length_of (b ∷ bs) =
    let one : length b.happened.items ≡ 1024 = b.full in
    let rest : length (all_of bs) ≡ 1024 * length bs = length_of bs in
    let both : length (b.happened.items ++ all_of bs) ≡ length b.happened.items + length (all_of bs) = length-append b.happened.items (all_of bs) in
    omega (arith, one, rest, both)

pub length_in : (bs : List Block) (last : List Happened) → length (all_of bs ++ last) ≡ 1024 * length bs + length last
length_in bs last = length-append (all_of bs) last ∙ ap (λ (n : ℕ). n + length last) (length_of bs)

early : (xs ys : List Happened) (i : ℕ) → i < length xs → slice_get (xs ++ ys) i ≡ slice_get xs i
early xs ys i small = grind (arith, common_steps, elements)

joined : (xs ys zs : List Happened) (i : ℕ) → slice_get ((xs ++ ys) ++ zs) i ≡ slice_get (xs ++ (ys ++ zs)) i
joined xs ys zs i = ap (λ (l : List Happened). slice_get l i) (append_assoc xs ys zs)

late : (xs ys : List Happened) (i : ℕ) → slice_get (xs ++ ys) (length xs + i) ≡ slice_get ys i
late xs ys i = grind (arith, common_steps, elements)

-- an event of a full block
pub at_block : (bs : List Block) (last : List Happened) (q r : ℕ) (b : Block) → slice_get bs q ≡ Some b → r < 1024 → slice_get (all_of bs ++ last) (1024 * q + r) ≡ slice_get b.happened.items r
at_block [] last q r b here small = absurd cc
at_block (x ∷ bs) last zero r b here small =
    let same : x ≡ b = same_Some x b here in
    let room : r < length x.happened.items = omega (arith, x.full, small) in
    let here : 1024 * 0 + r ≡ r = omega arith in
    ap (λ (n : ℕ). slice_get (all_of (x ∷ bs) ++ last) n) here ∙ joined x.happened.items (all_of bs) last r ∙ early x.happened.items (all_of bs ++ last) r room ∙ ap (λ (k : Block). slice_get k.happened.items r) same
at_block (x ∷ bs) last (suc q) r b here small =
    let one : length x.happened.items ≡ 1024 = x.full in
    let far : 1024 * suc q + r ≡ length x.happened.items + (1024 * q + r) = omega (arith, one) in
    joined x.happened.items (all_of bs) last (1024 * suc q + r)
    ∙ ap (λ (n : ℕ). slice_get (x.happened.items ++ (all_of bs ++ last)) n) far
    ∙ late x.happened.items (all_of bs ++ last) (1024 * q + r)
    ∙ at_block bs last q r b here small

-- an event of the last one
pub at_last : (bs : List Block) (last : List Happened) (r : ℕ) → slice_get (all_of bs ++ last) (1024 * length bs + r) ≡ slice_get last r
at_last bs last r = ap (λ (n : ℕ). slice_get (all_of bs ++ last) (n + r)) (sym (length_of bs)) ∙ late (all_of bs) last r
