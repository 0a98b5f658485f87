-- Marks are read one after the other.
use Rattle.std.proofs.Common.{◌≡◌, ◌∙◌, ap, sym, ℕ, List, ◌∷◌, ◌+◌, ◌≤◌, length, map}
use Rattle.std.specs.Prelude.{drop}
use Rattle.std.proofs.lemmas.List.{at_drop_all, drop-map}
use Rattle.pb_timers.specs.Timers.{Params}
use Rattle.law_turn.specs.Marks.{Mark, moment_of}
use Rattle.law_turn.specs.Stations.{Station}
use Rattle.law_turn.specs.Hearing.{after_timer, after_mark}
use Rattle.law_turn.specs.Turns.{after_marks}

-- a mark more is read
pub read-more : (p : Params) (first : Station) (all : List Mark) (i : ℕ) (s timed after : Station) (m : Mark) (limit : ℕ)
    → after_marks p s (drop i all) ≡ after_marks p first all → drop i all ≡ m ∷ drop (i + 1) all → limit ≡ moment_of m → timed ≡ after_timer p limit s
    → after ≡ after_mark p timed m → after_marks p after (drop (i + 1) all) ≡ after_marks p first all
read-more p first all i s timed after m limit same left at before is =
    ap (λ x. after_marks p x (drop (i + 1) all)) (is ∙ ap (λ x. after_mark p x m) (before ∙ ap (λ n. after_timer p n s) at))
    ∙ sym (ap (λ ms. after_marks p s ms) left) ∙ same

-- all marks are read
pub read-all : {X : Type 0} (f : X → Mark) (xs : List X) (i : ℕ) (p : Params) (first s : Station) → after_marks p s (drop i (map f xs)) ≡ after_marks p first (map f xs)
    → length xs ≤ i → s ≡ after_marks p first (map f xs)
read-all f xs i p first s same over = sym (ap (λ ms. after_marks p s ms) (drop-map f i xs) ∙ at_drop_all (λ ys. after_marks p s (map f ys)) xs i over) ∙ same
