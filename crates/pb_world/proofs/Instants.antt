-- The events and the turns of an instant.
use Rattle.std.proofs.Common.{◌≡◌, ◌∙◌, ℕ, zero, suc, ◌+◌, ◌<◌, ◌≤◌, List, [], ◌∷◌, ◌++◌, append_assoc, length, map, drop, slice_get, Bool, true, false, if◌then◌else◌, Option, Some, None, Result, Ok, Err, IsErr, MatchResult, refl, ap, sym, subst, arith}
use Rattle.std.specs.Prelude.{min}
use Rattle.std.specs.Option.{option_and_then}
use Rattle.std.specs.Result.{IsErrAnd}
use Rattle.std.proofs.lemmas.Bool.{le-ltb}
use Rattle.std.proofs.lemmas.List.{drop_all, length-map}
use Rattle.law_turn.specs.Stations.{earlier}
use Rattle.law_model.specs.Medium.{Tap}
use Rattle.law_model.specs.World.{World, Event, Turn, Reply, Fault}
use Rattle.law_model.specs.Step.{step}
use Rattle.law_runs.specs.Runs.{Plan, after, all, and_then, comes, next_turn, places, wanted, wants, with_front}
use Rattle.law_runs.specs.Bus.{bus, due_in, dues}
use Rattle.law_runs.proofs.OnTheBus.{turns-leave-others}
use Rattle.pb_world.specs.RunTo.{alone_until, turn_if}
use Rattle.pb_world.specs.Worlds.{due_at}

-- what code finds
pub in-err : {X F : Type 0} (P : X → Type 0) (Q : F → Type 0) (r : Result X F) (f : F) → IsErr r → IsErrAnd r (λ e. e ≡ f) → Q f → MatchResult r P Q
in-err P Q (Ok x) f err same q = absurd (let wrong : false ≡ true = err in cc)
in-err P Q (Err e) f err same q = subst Q (sym same) q

-- ---- events in a row

pub one-ok : (now : ℕ) (w u : World) (r : Reply) (e : Event) (es : List Event) → step w e ≡ Ok (u, r) → all bus now (e ∷ es) w ≡ all bus now es u
one-ok now w u r e es is = ap (λ o. and_then now o (all bus now es)) is

-- what happens after events that have happened
pub all-append : (now : ℕ) (xs ys : List Event) (w u : World) → all bus now xs w ≡ Ok u → all bus now (xs ++ ys) w ≡ all bus now ys u
all-append now [] ys w u same = ap (all bus now ys) (ok-is w u same)
  where
    ok-is : (w u : World) → (let o : Result World (ℕ × Fault) = Ok w in o ≡ Ok u) → w ≡ u
    ok-is w u same = cc
all-append now (x ∷ xs) ys w u same = by (λ v. all-append now xs ys v u) (step w x) refl same
  where
    by : ((v : World) → all bus now xs v ≡ Ok u → all bus now (xs ++ ys) v ≡ all bus now ys u) → (o : Result (World × Reply) Fault) → step w x ≡ o → and_then now o (all bus now xs) ≡ Ok u
        → all bus now (x ∷ (xs ++ ys)) w ≡ all bus now ys u
    by rest (Ok v) is same = one-ok now w v.0 v.1 x (xs ++ ys) is ∙ rest v.0 same
    by rest (Err f) is same = absurd cc

pub front-front : (xs ys : List Event) (o : Option (Result (World × List Event) (ℕ × Fault))) → with_front xs (with_front ys o) ≡ with_front (xs ++ ys) o
front-front xs ys None = refl
front-front xs ys (Some (Err r)) = refl
front-front xs ys (Some (Ok end)) = ap (λ es. Some (Ok (end.0, es))) (sym (append_assoc xs ys end.1))

pub no-front : (o : Option (Result (World × List Event) (ℕ × Fault))) → with_front [] o ≡ o
no-front None = refl
no-front (Some (Err r)) = refl
no-front (Some (Ok end)) = refl

-- ---- turns

pub turns-append : (xs ys : List ℕ) → map Turn (xs ++ ys) ≡ map Turn xs ++ map Turn ys
turns-append [] ys = refl
turns-append (x ∷ xs) ys = ap (λ es. Turn x ∷ es) (turns-append xs ys)

-- when a tap is due, among those of all taps
pub due-get : (w : World) (tap : ℕ) → tap < length w.taps → slice_get (dues w) tap ≡ Some (due_at w tap)
due-get w tap there = in_taps w.taps tap there
  where
    in_taps : (ts : List Tap) (i : ℕ) → i < length ts → slice_get (map (due_in w) ts) i ≡ Some (option_and_then (due_in w) (slice_get ts i))
    in_taps [] i there = absurd (omega (arith, there))
    in_taps (t ∷ ts) zero there = refl
    in_taps (t ∷ ts) (suc i) there = in_taps ts i (omega (arith, there))

pub drop-at : {X : Type 0} (xs : List X) (i : ℕ) (x : X) → slice_get xs i ≡ Some x → drop i xs ≡ x ∷ drop (i + 1) xs
drop-at [] i x found = absurd cc
drop-at (y ∷ ys) zero x found = let same : y ≡ x = cc in ap (λ z. z ∷ ys) same
drop-at (y ∷ ys) (suc i) x found =
    let same : suc (i + 1) ≡ suc i + 1 = omega arith in
    drop-at ys i x found ∙ ap (λ n. x ∷ drop n (y ∷ ys)) same

abbrev pub turn_list : Bool → ℕ → List ℕ
turn_list b tap = if b then tap ∷ [] else []

pub turns-list : (b : Bool) (tap : ℕ) → map Turn (turn_list b tap) ≡ turn_if b tap
turns-list true tap = refl
turns-list false tap = refl

-- the tap at a position takes its turn, if it wants to, before those behind it
pub wanted-front : (p : Plan Event) (clock tap : ℕ) (ds : List (Option ℕ)) (due : Option ℕ) → slice_get ds tap ≡ Some due
    → turn_list (wants p clock tap due) tap ++ places (tap + 1) (wanted p clock (tap + 1) (drop (tap + 1) ds)) ≡ places tap (wanted p clock tap (drop tap ds))
wanted-front p clock tap ds due found =
    let rest = places (tap + 1) (wanted p clock (tap + 1) (drop (tap + 1) ds)) in
    join (wants p clock tap due) rest ∙ ap (λ (xs : List (Option ℕ)). places tap (wanted p clock tap xs)) (sym (drop-at ds tap due found))
  where
    join : (x : Bool) (rest : List ℕ) → turn_list x tap ++ rest ≡ (if x then tap ∷ rest else rest)
    join true rest = refl
    join false rest = refl

-- a turn, or none, leaves when the other taps are due
pub others-due : (now tap other : ℕ) (b : Bool) (w u : World) → tap + 1 ≤ other → all bus now (turn_if b tap) w ≡ Ok u → slice_get (dues u) other ≡ slice_get (dues w) other
others-due now tap other false w u behind ok = let same : w ≡ u = cc in ap (λ (x : World). slice_get (dues x) other) (sym same)
others-due now tap other true w u behind ok = by (step w (Turn tap)) refl ok
  where
    by : (o : Result (World × Reply) Fault) → step w (Turn tap) ≡ o → and_then now o (all bus now []) ≡ Ok u → slice_get (dues u) other ≡ slice_get (dues w) other
    by (Err fault) is ok = absurd cc
    by (Ok next) is ok =
        let same : next.0 ≡ u = cc in
        ap (λ (x : World). slice_get (dues x) other) (sym same) ∙ turns-leave-others w next.0 tap other next.1 (λ here. omega (arith, here, behind)) is

-- ---- the next turn

earlier-join : (a b c : Option ℕ) → earlier (earlier a b) c ≡ earlier a (earlier b c)
earlier-join None b c = refl
earlier-join (Some x) None c = refl
earlier-join (Some x) (Some y) None = refl
earlier-join (Some x) (Some y) (Some z) = let same : min (min x y) z ≡ min x (min y z) = omega arith in ap (λ n. Some n) same

-- one tap more
pub sooner-more : (p : Plan Event) (clock : ℕ) (w : World) (tap : ℕ) (first next all_of : Option ℕ) → tap < length w.taps → next ≡ earlier first (comes p clock tap (due_at w tap))
    → earlier first (next_turn p clock tap (drop tap (dues w))) ≡ all_of → earlier next (next_turn p clock (tap + 1) (drop (tap + 1) (dues w))) ≡ all_of
sooner-more p clock w tap first next all_of there is so_far =
    let rest = next_turn p clock (tap + 1) (drop (tap + 1) (dues w)) in
    ap (λ (o : Option ℕ). earlier o rest) is ∙ earlier-join first (comes p clock tap (due_at w tap)) rest
    ∙ ap (λ (ds : List (Option ℕ)). earlier first (next_turn p clock tap ds)) (sym (drop-at (dues w) tap (due_at w tap) (due-get w tap there))) ∙ so_far

-- no tap is left
pub sooner-all : (p : Plan Event) (clock : ℕ) (w : World) (tap : ℕ) (first all_of : Option ℕ) → length w.taps ≤ tap → earlier first (next_turn p clock tap (drop tap (dues w))) ≡ all_of → first ≡ all_of
sooner-all p clock w tap first all_of past so_far =
    let none : drop tap (dues w) ≡ [] = drop_all tap (dues w) (omega (arith, past, length-map w.taps (due_in w))) in
    by first ∙ ap (λ (ds : List (Option ℕ)). earlier first (next_turn p clock tap ds)) (sym none) ∙ so_far
  where
    by : (o : Option ℕ) → o ≡ earlier o None
    by None = refl
    by (Some n) = refl

-- where no tap is withheld, a tap comes when it is due
pub comes-alone : (until now tap : ℕ) (due : Option ℕ) → comes (alone_until until) now tap due ≡ after now due
comes-alone until now tap due = ap (λ (b : Bool). if b then Some 0 else after now due) (le-ltb now 0 (omega arith))
