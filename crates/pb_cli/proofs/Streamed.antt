-- Bytes that are written in pieces.
use Rattle.std.proofs.Common.{ℕ, ◌+◌, List, ◌++◌, take, drop, ap, sym, ◌∙◌, append_assoc, Option, Some, None}
use Rattle.std.proofs.Math.Seq.{take-add}
use Rattle.std.specs.Io.KnownBytes.{Appends}

-- a front of the text, and then a front of what is left, is a longer front
pub Appends-take : (old mid new : Option (List ℕ)) (n m : ℕ) (text : List ℕ) → Appends old mid (take n text)
    → Appends mid new (take m (drop n text)) → Appends old new (take (n + m) text)
Appends-take None mid new n m text front more = tt
Appends-take (Some xs) None new n m text front more = absurd front
Appends-take (Some xs) (Some ys) None n m text front more = absurd more
Appends-take (Some xs) (Some ys) (Some zs) n m text front more =
    more ∙ ap (λ (l : List ℕ). l ++ take m (drop n text)) front ∙ append_assoc xs (take n text) (take m (drop n text))
    ∙ ap (λ (l : List ℕ). xs ++ l) (sym (take-add n m text))
