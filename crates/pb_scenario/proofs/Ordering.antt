-- Steps that are read stand in order of time, and come from outside.
use Rattle.std.proofs.Common.{◌≡◌, ◌≤◌, ℕ, ◌+◌, List, Bool, true, false, Result, Ok, Err, IfOk, refl, nat_lt, ◌∷◌, None, arith}
use Rattle.std.specs.Prelude.{if◌then◌else◌}
use Rattle.std.proofs.lemmas.Bool.Decides.{nat_tests}
use Rattle.toml.specs.Data.{Items, no_items, item, Members, as_str}
use Rattle.law_model.specs.World as model
use Rattle.law_runs.specs.Scenarios.{Deed, Happens, Withhold, Planned}
use Rattle.law_runs.specs.Laws.{deed_is_from_outside, AreFromOutside}
use Rattle.pb_scenario.specs.Walks.{AreFrom}
use Rattle.pb_scenario.specs.declared.keys.Key.{Key}
use Rattle.pb_scenario.specs.declared.keys.Key.TheVariants as key
use Rattle.pb_scenario.specs.declared.keys.Section.{Section}
use Rattle.pb_scenario.specs.declared.keys.Section.TheVariants.{Step}
use Rattle.pb_scenario.specs.declared.words.Word.{Word}
use Rattle.pb_scenario.specs.declared.words.Word.TheVariants as word
use Rattle.pb_scenario.specs.Keys.{step_keys}
use Rattle.pb_scenario.specs.Words.{word_of}
use Rattle.pb_scenario.specs.Fields.{Fault, StepOrder, and_then, known, meant, path_of}
use Rattle.pb_scenario.specs.Files.{number, word32, tap_at, request_in, if_there, some_octet, item_in, deed_in, in_order, step_by, step_in, items_from, steps_from}
use Rattle.pb_scenario.proofs.Chains.{then-all, then-each}

abbrev pub IsOutside : Deed → Type 0
IsOutside d = deed_is_from_outside d ≡ true

deed-outside : (names : List (List ℕ)) (at : Section) (table : Members) (w : Word) → IfOk (deed_in names at table w) IsOutside
unfolding deed_in
deed-outside names at table word.Start = then-each IsOutside (tap_at names at key.Tap table) (λ tap. Ok (Happens (model.Start tap))) (λ tap. refl)
deed-outside names at table word.Stop = then-each IsOutside (tap_at names at key.Tap table) (λ tap. Ok (Happens (model.Stop tap))) (λ tap. refl)
deed-outside names at table word.Queue =
    let on : ℕ → Result Deed Fault = λ tap. and_then (request_in at table) (λ request. Ok (Happens (model.Queue tap request))) in
    then-each IsOutside (tap_at names at key.Tap table) on (λ tap.
    then-each IsOutside (request_in at table) (λ request. Ok (Happens (model.Queue tap request))) (λ request. refl))
deed-outside names at table word.Damage =
    let place = if_there None some_octet at key.Place table in
    let by : ℕ → ℕ → Result Deed Fault = λ tap speaker. and_then place (λ p. Ok (Happens (model.Damage tap speaker p))) in
    then-each IsOutside (tap_at names at key.Tap table) (λ tap. and_then (tap_at names at key.Speaker table) (by tap)) (λ tap.
    then-each IsOutside (tap_at names at key.Speaker table) (by tap) (λ speaker.
    then-each IsOutside place (λ p. Ok (Happens (model.Damage tap speaker p))) (λ p. refl)))
deed-outside names at table word.Noise = then-each IsOutside (word32 at key.Bits table) (λ bits. Ok (Happens (model.Noise bits))) (λ bits. refl)
deed-outside names at table word.Unheard =
    let by : ℕ → ℕ → Result Deed Fault = λ tap speaker. Ok (Happens (model.Unheard tap speaker)) in
    then-each IsOutside (tap_at names at key.Tap table) (λ tap. and_then (tap_at names at key.Speaker table) (by tap)) (λ tap.
    then-each IsOutside (tap_at names at key.Speaker table) (by tap) (λ speaker. refl))
deed-outside names at table word.Withhold =
    let held : ℕ → ℕ → Result Deed Fault = λ tap bits. Ok (Withhold tap bits) in
    then-each IsOutside (tap_at names at key.Tap table) (λ tap. and_then (word32 at key.Bits table) (held tap)) (λ tap.
    then-each IsOutside (word32 at key.Bits table) (held tap) (λ bits. refl))

moment-later : (before : ℕ) (at : Section) (n : ℕ) → IfOk (in_order before at n) (λ m. before ≤ m)
moment-later before at n = by (nat_lt n before) refl
  where
    by : (b : Bool) → nat_lt n before ≡ b → IfOk (if b then Err (StepOrder (path_of at key.At)) else Ok n) (λ m. before ≤ m)
    by true e = tt
    by false e = grind (arith, nat_tests)

abbrev pub IsLater : ℕ → Planned → Type 0
IsLater before s = (before ≤ s.at) × IsOutside s.deed

pub step-by-later : (names : List (List ℕ)) (before : ℕ) (at : Section) (table : Members) (does : Word) (keys : List Key) → IfOk (step_by names before at table does keys) (IsLater before)
unfolding step_by
step-by-later names before at table does keys =
    let made : ℕ → Deed → Result Planned Fault = λ moment deed. Ok (record { at = moment; deed = deed }) in
    let with_deed : ℕ → Result Planned Fault = λ moment. and_then (deed_in names at table does) (made moment) in
    let with_moment : ℕ → Result Planned Fault = λ n. and_then (in_order before at n) with_deed in
    let with_at : Unit {0} → Result Planned Fault = λ known. and_then (number 0 18446744073709551615 at key.At table) with_moment in
    then-each (IsLater before) (known keys at table) with_at (λ known.
    then-each (IsLater before) (number 0 18446744073709551615 at key.At table) with_moment (λ n.
    then-all (λ m. before ≤ m) (IsLater before) (in_order before at n) with_deed (moment-later before at n) (λ moment later.
    then-all IsOutside (IsLater before) (deed_in names at table does) (made moment) (deed-outside names at table does) (λ deed outside. (later, outside)))))

step-later : (names : List (List ℕ)) (before : ℕ) (at : Section) (table : Members) → IfOk (step_in names before at table) (IsLater before)
unfolding step_in
step-later names before at table =
    then-each (IsLater before) (meant word_of as_str at key.Do table) (λ does. step_by names before at table does (step_keys does)) (λ does.
    step-by-later names before at table does (step_keys does))

pub record AreLater (before : ℕ) (steps : List Planned) : Type 0 where
  pub order : AreFrom before steps
  pub outside : AreFromOutside steps

pub steps-later : (names : List (List ℕ)) (before place : ℕ) (items : Items) → IfOk (steps_from names before place items) (AreLater before)
unfolding items_from
steps-later names before place no_items = record { order = tt; outside = tt }
steps-later names before place (item d ds) =
    let with_rest : Planned → List Planned → Result (List Planned) Fault = λ s ss. Ok (s ∷ ss) in
    let with_step : Planned → Result (List Planned) Fault = λ s. and_then (steps_from names s.at (place + 1) ds) (with_rest s) in
    let with_table : Members → Result (List Planned) Fault = λ table. and_then (step_in names before (Step place) table) with_step in
    then-each (AreLater before) (item_in (Step place) d) with_table (λ table.
    then-all (IsLater before) (AreLater before) (step_in names before (Step place) table) with_step (step-later names before (Step place) table) (λ s later.
    then-all (AreLater s.at) (AreLater before) (steps_from names s.at (place + 1) ds) (with_rest s) (steps-later names s.at (place + 1) ds) (λ ss more.
    record { order = (later.0, more.order); outside = (later.1, more.outside) })))
