-- Steps that repeat, as they are read.
use Rattle.std.proofs.Common.{◌≡◌, ◌≤◌, ◌<◌, ◌^◌, ◌+◌, ℕ, Bool, true, false, List, [], ◌∷◌, ◌++◌, map, length, Option, Some, None, Result, Ok, Err, IfOk, refl, ap, arith}
use Rattle.std.specs.Prelude.{if◌then◌else◌, nat_le, ◌&&◌, ℤ, pos, negsuc, IfSome, is_some}
use Rattle.std.specs.Option.{ok_or}
use Rattle.std.proofs.lemmas.Bool.Decides.{nat_tests}
use Rattle.std.proofs.lemmas.List.Elements.{All-nil, All-cons}
use Rattle.toml.specs.Data.{Items, no_items, item, Members, get_member, as_integer, as_str}
use Rattle.law_runs.specs.Laws.{AreFromOutside}
use Rattle.law_runs.specs.Scenarios.{Planned}
use Rattle.pb_scenario.specs.declared.keys.Key.{Key}
use Rattle.pb_scenario.specs.declared.keys.Key.TheVariants as key
use Rattle.pb_scenario.specs.declared.keys.Section.{Section}
use Rattle.pb_scenario.specs.declared.keys.Section.TheVariants.{Step}
use Rattle.pb_scenario.specs.declared.repeats.Repeat.{Repeat}
use Rattle.pb_scenario.specs.declared.words.Word.{Word}
use Rattle.pb_scenario.specs.Fields.{BadValue, Fault, and_then, in_range, meant, path_of, typed}
use Rattle.pb_scenario.specs.Files.{item_in, items_from, number, step_by}
use Rattle.pb_scenario.specs.Keys.{key_name}
use Rattle.pb_scenario.specs.RepeatedTables.{paired}
use Rattle.pb_scenario.specs.Repeats.{AreSteady, IsSteady}
use Rattle.pb_scenario.specs.StreamFiles.{RepeatedStep, count_in, keys_in, most, repeat_in, repeat_of, repeated_from, repeated_step_in}
use Rattle.pb_scenario.specs.Walks.{AreFrom}
use Rattle.pb_scenario.specs.Words.{word_of}
use Rattle.pb_scenario.proofs.Chains.{then-all, then-each}
use Rattle.pb_scenario.proofs.Ordering.{IsLater, step-by-later}

-- ---- steps with how they repeat

pub paired-more : (steps : List Planned) (repeats : List (Option Repeat)) (s : RepeatedStep) → length steps ≡ length repeats
    → paired (steps ++ s.step ∷ []) (repeats ++ s.repeat ∷ []) ≡ paired steps repeats ++ s ∷ []
paired-more [] [] s same = refl
paired-more [] (r ∷ rs) s same = absurd (omega (arith, same))
paired-more (x ∷ xs) [] s same = absurd (omega (arith, same))
paired-more (x ∷ xs) (r ∷ rs) s same = ap (λ l. record { step = x; repeat = r } ∷ l) (paired-more xs rs s (omega (arith, same)))

pub paired-steps : (steps : List Planned) (repeats : List (Option Repeat)) → length steps ≡ length repeats → map (λ (s : RepeatedStep). s.step) (paired steps repeats) ≡ steps
paired-steps [] rs same = refl
paired-steps (x ∷ xs) [] same = absurd (omega (arith, same))
paired-steps (x ∷ xs) (r ∷ rs) same = ap (λ l. x ∷ l) (paired-steps xs rs (omega (arith, same)))

pub paired-repeats : (steps : List Planned) (repeats : List (Option Repeat)) → length steps ≡ length repeats → map (λ (s : RepeatedStep). s.repeat) (paired steps repeats) ≡ repeats
paired-repeats [] [] same = refl
paired-repeats [] (r ∷ rs) same = absurd (omega (arith, same))
paired-repeats (x ∷ xs) [] same = absurd (omega (arith, same))
paired-repeats (x ∷ xs) (r ∷ rs) same = ap (λ l. r ∷ l) (paired-repeats xs rs (omega (arith, same)))

-- ---- what is read is in order, from outside and steady

range-found : (least limit : ℕ) (fault : Fault) (z : ℤ) → IfOk (ok_or (in_range least limit z) fault) (λ n. (least ≤ n) × (n ≤ limit))
range-found least limit fault (negsuc n) = tt
range-found least limit fault (pos n) = by (nat_le least n) (nat_le n limit) refl refl
  where
    by : (a b : Bool) → nat_le least n ≡ a → nat_le n limit ≡ b → IfOk (ok_or (if a && b then Some n else None) fault) (λ n. (least ≤ n) × (n ≤ limit))
    by true true low high = (grind (arith, nat_tests), grind (arith, nat_tests))
    by true false low high = tt
    by false b low high = tt

number-range : (least limit : ℕ) (at : Section) (k : Key) (table : Members) → IfOk (number least limit at k table) (λ n. (least ≤ n) × (n ≤ limit))
unfolding meant
number-range least limit at k table =
    then-each (λ n. (least ≤ n) × (n ≤ limit)) (typed as_integer at k table) (λ z. ok_or (in_range least limit z) (BadValue (path_of at k)))
    (range-found least limit (BadValue (path_of at k)))

repeat-steady : (at : Section) (table : Members) → IfOk (repeat_in at table) IsSteady
unfolding repeat_in
repeat-steady at table = by (is_some (get_member (key_name key.Every) table))
  where
    by : (b : Bool) → IfOk (if b then repeat_of at key.Every table else Ok None) IsSteady
    by true =
        let made : ℕ → Option ℕ → Result (Option Repeat) Fault = λ every often. Ok (Some (record { every = every; count = often })) in
        then-all (λ n. (1 ≤ n) × (n ≤ most)) IsSteady (number 1 most at key.Every table) (λ every. and_then (count_in at table) (made every))
        (number-range 1 most at key.Every table) (λ every (low, high).
        then-each IsSteady (count_in at table) (made every) (λ often. (low, omega (arith, high))))
    by false = tt

pub record IsNext (before : ℕ) (s : RepeatedStep) : Type 0 where
  pub later : IsLater before s.step
  pub steady : IsSteady s.repeat

one-later : (names : List (List ℕ)) (before : ℕ) (at : Section) (table : Members) → IfOk (repeated_step_in names before at table) (IsNext before)
unfolding repeated_step_in
one-later names before at table =
    let made : Planned → Option Repeat → Result RepeatedStep Fault = λ step repeat. Ok (record { step = step; repeat = repeat }) in
    let with_step : Planned → Result RepeatedStep Fault = λ step. and_then (repeat_in at table) (made step) in
    let with_word : Word → Result RepeatedStep Fault = λ does. and_then (step_by names before at table does (keys_in table does)) with_step in
    then-each (IsNext before) (meant word_of as_str at key.Do table) with_word (λ does.
    then-all (IsLater before) (IsNext before) (step_by names before at table does (keys_in table does)) with_step (step-by-later names before at table does (keys_in table does)) (λ step later.
    then-all IsSteady (IsNext before) (repeat_in at table) (made step) (repeat-steady at table) (λ repeat steady. record { later = later; steady = steady })))

pub record AreNext (before : ℕ) (all : List RepeatedStep) : Type 0 where
  pub order : AreFrom before (map (λ (s : RepeatedStep). s.step) all)
  pub outside : AreFromOutside (map (λ (s : RepeatedStep). s.step) all)
  pub steady : AreSteady (map (λ (s : RepeatedStep). s.repeat) all)

pub all-later : (names : List (List ℕ)) (before place : ℕ) (items : Items) → IfOk (repeated_from names before place items) (AreNext before)
unfolding items_from
all-later names before place no_items = record { order = tt; outside = tt; steady = All-nil IsSteady }
all-later names before place (item d ds) =
    let with_rest : RepeatedStep → List RepeatedStep → Result (List RepeatedStep) Fault = λ s ss. Ok (s ∷ ss) in
    let with_step : RepeatedStep → Result (List RepeatedStep) Fault = λ s. and_then (repeated_from names s.step.at (place + 1) ds) (with_rest s) in
    let with_table : Members → Result (List RepeatedStep) Fault = λ table. and_then (repeated_step_in names before (Step place) table) with_step in
    then-each (AreNext before) (item_in (Step place) d) with_table (λ table.
    then-all (IsNext before) (AreNext before) (repeated_step_in names before (Step place) table) with_step (one-later names before (Step place) table) (λ s next.
    then-all (AreNext s.step.at) (AreNext before) (repeated_from names s.step.at (place + 1) ds) (with_rest s) (all-later names s.step.at (place + 1) ds) (λ ss more.
    record {
      order = (next.later.0, more.order);
      outside = (next.later.1, more.outside);
      steady = All-cons IsSteady s.repeat (map (λ (s : RepeatedStep). s.repeat) ss) next.steady more.steady;
    })))
