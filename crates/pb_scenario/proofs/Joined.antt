-- How far a history is read.
use Rattle.std.proofs.Common.{◌≡◌, ◌∙◌, ℕ, zero, suc, ◌+◌, ◌<◌, ◌≤◌, List, [], ◌∷◌, ◌++◌, append_assoc, append-nil, length, map, take, drop, slice_get, slice_set, get_or, Bool, true, false, Some, refl, sym, ap, subst, arith}
use Rattle.std.specs.Option.{option_to_list}
use Rattle.std.proofs.lemmas.Grind.{common_steps}
use Rattle.std.proofs.lemmas.List.{map-append}
use Rattle.law_model.specs.World.{Event, Turn}
use Rattle.law_runs.specs.Histories.{Picks, none_left}
use Rattle.pb_scenario.specs.declared.deeds.Step.{Step}
use Rattle.pb_scenario.specs.Steps.{deed_of, steps_of}
use Rattle.pb_scenario.specs.declared.deeds.When.{When}
use Rattle.pb_scenario.specs.Said.{said_in, said_by}
use Rattle.pb_scenario.proofs.Said.{said-more}
use Rattle.pb_scenario.specs.Reading.{Reads, ReadsTurns, Takes}

-- ---- events

front : (all : List Event) (at : ℕ) (x : Event) → slice_get all at ≡ Some x → (drop at all ≡ x ∷ drop (at + 1) all) × (at + 1 ≤ length all)
front [] at x found = absurd cc
front (e ∷ es) zero x found = let same : e ≡ x = cc in (ap (λ y. y ∷ es) same, omega arith)
front (e ∷ es) (suc at) x found = let more = front es at x found in let same : suc (at + 1) ≡ suc at + 1 = omega arith in
    (more.0 ∙ ap (λ n. x ∷ drop n (e ∷ es)) same, omega (arith, more.1))

pub reads-none : (all : List Event) (at : ℕ) → at ≤ length all → Reads all at [] at
reads-none all at inside = record { cut = refl; count = omega arith; inside = inside }

pub reads-one : (all : List Event) (at : ℕ) (x : Event) → slice_get all at ≡ Some x → Reads all at (x ∷ []) (at + 1)
reads-one all at x found = let both = front all at x found in record { cut = both.0; count = refl; inside = both.1 }

pub reads-join : (all xs ys : List Event) (a b c : ℕ) → Reads all a xs b → Reads all b ys c → Reads all a (xs ++ ys) c
reads-join all xs ys a b c one two = record {
  cut = one.cut ∙ ap (λ es. xs ++ es) two.cut ∙ sym (append_assoc xs ys (drop c all));
  count = grind (arith, common_steps, one.count, two.count);
  inside = two.inside;
}

-- ---- steps

-- one step more
pub reads-step : (all : List Event) (when : When) (i : ℕ) (steps : List Step) (s : Step) (place at next : ℕ) → slice_get steps i ≡ Some s → Reads all place (said_by when (steps_of (take i steps))) at
    → Reads all at (option_to_list (said_in when (deed_of s.deed))) next → Reads all place (said_by when (steps_of (take (i + 1) steps))) next
reads-step all when i steps s place at next found so_far one =
    subst (λ es. Reads all place es next) (sym (said-more when i steps s found))
    (reads-join all (said_by when (steps_of (take i steps))) (option_to_list (said_in when (deed_of s.deed))) place at next so_far one)

-- ---- turns

pub turns-none : (all : List Event) (place : ℕ) (want : List Bool) → place ≤ length all → ReadsTurns all place want want place
turns-none all place want inside = ([], reads-none all place inside, λ rest picks. picks)

pub turns-one : (all : List Event) (place tap : ℕ) (want : List Bool) → slice_get all place ≡ Some (Turn tap) → slice_get want tap ≡ Some true → ReadsTurns all place want (slice_set want tap false) (place + 1)
unfolding Picks
turns-one all place tap want found wants = (tap ∷ [], reads-one all place (Turn tap) found, λ rest picks. (wants, picks))

pub turns-join : (all : List Event) (a b c : ℕ) (first want next : List Bool) → ReadsTurns all a first want b → ReadsTurns all b want next c → ReadsTurns all a first next c
turns-join all a b c first want next (xs, one, picks) (ys, two, more) = (
  xs ++ ys,
  subst (λ es. Reads all a es c) (sym (map-append (λ t. Turn t) xs ys)) (reads-join all (map Turn xs) (map Turn ys) a b c one two),
  λ rest end. subst (λ ts. Picks first ts) (sym (append_assoc xs ys rest)) (picks (ys ++ rest) (more rest end)),
)

-- where no tap wants a turn any more, all have had theirs
pub turns-end : (all : List Event) (place at : ℕ) (first want : List Bool) → ReadsTurns all place first want at → none_left want ≡ true
    → (taps : List ℕ) × Reads all place (map Turn taps) at × Picks first taps
unfolding Picks
turns-end all place at first want (taps, reads, picks) none = (taps, reads, subst (λ ts. Picks first ts) (append-nil taps) (picks [] none))

-- the item of a loop
pub get-at : {X : Type 0} (xs : List X) (i : ℕ) (x : X) → i < length xs → x ≡ get_or xs i x → slice_get xs i ≡ Some x
get-at [] i x within is = absurd (omega (arith, within))
get-at (y ∷ xs) zero x within is = ap (λ z. Some z) (sym is)
get-at (y ∷ xs) (suc i) x within is = get-at xs i x (omega (arith, within)) is

-- a tap that wanted its turn has taken it
pub turns-taken : (all : List Event) (place tap : ℕ) (want next : List Bool) (b : Bool) → slice_get all place ≡ Some (Turn tap) → Takes want tap next b → b ≡ true → ReadsTurns all place want next (place + 1)
turns-taken all place tap want next true found takes is = subst (λ bs. ReadsTurns all place want bs (place + 1)) (sym takes.1) (turns-one all place tap want found takes.0)
turns-taken all place tap want next false found takes is = absurd cc
