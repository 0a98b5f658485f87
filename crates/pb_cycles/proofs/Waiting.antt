-- A list of a queue is first in first out.
use Rattle.std.proofs.Common.{◌≡◌, ◌∙◌, sym, refl, ap, Bool, true, false, if◌then◌else◌, nat_lt, List, [], ◌∷◌, ◌++◌, length, take, drop, append_assoc, append-nil}
use Rattle.std.proofs.lemmas.List.{take-append-drop}
use Rattle.pb_cycles.specs.Queued.{Use, Put, TakeOut, put, waiting, accepted, taken}
use Rattle.pb_cycles.specs.RequestFields.{RequestFields}

one_put : (room : Bool) (xs : List RequestFields) (r : RequestFields) (more : List RequestFields)
    → xs ++ ((if room then r ∷ [] else []) ++ more) ≡ (if room then xs ++ r ∷ [] else xs) ++ more
one_put true xs r more = sym (append_assoc xs (r ∷ []) more)
one_put false xs r more = refl

pub in_order : (xs : List RequestFields) (uses : List Use) → xs ++ accepted xs uses ≡ taken xs uses ++ waiting xs uses
in_order xs [] = append-nil xs
in_order xs (Put r ∷ uses) = one_put (nat_lt (length xs) 16) xs r (accepted (put xs r) uses) ∙ in_order (put xs r) uses
in_order xs (TakeOut ∷ uses) =
    ap (λ (ys : List RequestFields). ys ++ accepted (drop 1 xs) uses) (sym (take-append-drop 1 xs))
    ∙ append_assoc (take 1 xs) (drop 1 xs) (accepted (drop 1 xs) uses)
    ∙ ap (λ (ys : List RequestFields). take 1 xs ++ ys) (in_order (drop 1 xs) uses)
    ∙ sym (append_assoc (take 1 xs) (taken (drop 1 xs) uses) (waiting (drop 1 xs) uses))
