-- The requests that a station executes are told as their marks are read.
use Rattle.std.proofs.Common.{◌≡◌, ◌∙◌, ap, sym, ℕ, ◌++◌, List, [], ◌∷◌, append_assoc}
use Rattle.std.specs.Prelude.{Option, Some, None}
use Rattle.pb_timers.specs.Timers.{Params}
use Rattle.law_turn.specs.Hearing.{after_timer, after_mark}
use Rattle.law_turn.specs.Marks.{Mark, moment_of}
use Rattle.law_turn.specs.Stations.{Station}
use Rattle.pb_station.specs.Indications.{IndicationFields, executed_by, executed_in, indications_of, with_front}

front-last : (told : List IndicationFields) (one : Option IndicationFields) (rest : List IndicationFields)
    → (told ++ with_front one []) ++ rest ≡ told ++ with_front one rest
front-last told None rest = append_assoc told [] rest
front-last told (Some i) rest = append_assoc told (i ∷ []) rest

-- a mark more is read, and its request is told
pub tell-note : (p : Params) (s timed after : Station) (told new all : List IndicationFields) (ms rest : List Mark) (m : Mark) (limit before behind : ℕ)
    → told ++ indications_of p s ms ≡ all → ms ≡ m ∷ rest → limit ≡ moment_of m → timed ≡ after_timer p limit s → after ≡ after_mark p timed m
    → before ≡ executed_by timed → behind ≡ executed_by after → new ≡ told ++ with_front (executed_in before behind m) []
    → new ++ indications_of p after rest ≡ all
tell-note p s timed after told new all ms rest m limit before behind same split at turned is was now more =
    let timed' = after_timer p (moment_of m) s in
    let first : timed ≡ timed' = turned ∙ ap (λ (n : ℕ). after_timer p n s) at in
    let second : after ≡ after_mark p timed' m = is ∙ ap (λ (x : Station). after_mark p x m) first in
    ap (λ (xs : List IndicationFields). xs ++ indications_of p after rest) more
    ∙ front-last told (executed_in before behind m) (indications_of p after rest)
    ∙ ap (λ (n : ℕ). told ++ with_front (executed_in n behind m) (indications_of p after rest)) (was ∙ ap executed_by first)
    ∙ ap (λ (n : ℕ). told ++ with_front (executed_in (executed_by timed') n m) (indications_of p after rest)) now
    ∙ ap (λ (x : Station). told ++ with_front (executed_in (executed_by timed') (executed_by x) m) (indications_of p x rest)) second
    ∙ ap (λ (xs : List Mark). told ++ indications_of p s xs) (sym split)
    ∙ same
