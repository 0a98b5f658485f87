-- Items of a list that are read one after another.
use Rattle.std.proofs.Common.{◌≡◌, ◌∙◌, ◌≤◌, ◌<◌, ℕ, ◌+◌, List, [], ◌∷◌, ◌++◌, append-nil, length, map, drop, get_or, true, false, Result, Ok, Err, refl, ap, sym, subst, zero, suc, nat_lt, String, string_bytes, arith}
use Rattle.std.specs.Prelude.{OnOk, is_err, if◌then◌else◌}
use Rattle.std.proofs.lemmas.Bool.Decides.{nat_tests}
use Rattle.std.proofs.lemmas.List.{length-map}
use Rattle.toml.specs.Data.{no_items, item, Members}
use Rattle.toml.specs.View.{view, items_view}
use Rattle.toml.specs.declared.value.Value.{Value}
use Rattle.toml.proofs.Views.{items_view-drop}
use Rattle.law_model.specs.Medium.{TapSpec}
use Rattle.pb_scenario.specs.declared.keys.Section.{Section}
use Rattle.pb_scenario.specs.declared.keys.Section.TheVariants.{Tap, Step}
use Rattle.pb_scenario.specs.declared.versions.Version.{Version}
use Rattle.pb_scenario.specs.declared.faults.ScenarioFault.{ScenarioFault}
use Rattle.pb_scenario.specs.Fields.{Fault, TooMany, Tells, and_then}
use Rattle.pb_scenario.specs.Scenarios.{names_of}
use Rattle.pb_scenario.specs.Files.{NamedTap, count, item_in, named, tap_in, taps_from, items_from}
use Rattle.pb_scenario.proofs.Chains.{then_ok, then_tells, then_tells_next, one-more}

pub count-items : (vs : List Value) → count (items_view vs) ≡ length vs
count-items [] = refl
count-items (v ∷ vs) = let more : count (items_view vs) ≡ length vs = count-items vs in omega arith

-- the item at an index before those behind it
front : (vs : List Value) (i : ℕ) (x : Value) → i < length vs → x ≡ get_or vs i x → items_view (drop i vs) ≡ item (view x) (items_view (drop (i + 1) vs))
front vs i x within is = items_view-drop vs i x within ∙ ap (λ v. item (view v) (items_view (drop (i + 1) vs))) (sym is)

-- what holds on success holds where there is no error
pub on-ok : {X E : Type 0} (P : Type 0) (r : Result X E) → OnOk r P → false ≡ is_err r → P
on-ok P (Ok x) holds well = holds
on-ok P (Err e) holds well = absurd (let wrong : false ≡ true = well in cc)

nothing-left : (vs : List Value) (i : ℕ) → length vs ≤ i → items_view (drop i vs) ≡ no_items
nothing-left [] zero all = refl
nothing-left [] (suc i) all = refl
nothing-left (v ∷ vs) zero all = absurd (omega (arith, all))
nothing-left (v ∷ vs) (suc i) all = nothing-left vs i (omega (arith, all))

-- no more items than there may be, or more
pub few-items : {X : Type 0} (limit : ℕ) (vs : List Value) (r : Result X Fault) → length vs ≤ limit → (if nat_lt limit (count (items_view vs)) then Err TooMany else r) ≡ r
few-items limit vs r few =
    let no : nat_lt limit (count (items_view vs)) ≡ false = rw (count-items vs) (grind (arith, nat_tests)) in
    ap (λ b. if b then Err TooMany else r) no

pub many-items : {X : Type 0} (limit : ℕ) (vs : List Value) (r : Result X Fault) → limit < length vs → (if nat_lt limit (count (items_view vs)) then Err TooMany else r) ≡ Err TooMany
many-items limit vs r many =
    let yes : nat_lt limit (count (items_view vs)) ≡ true = rw (count-items vs) (grind (arith, nat_tests)) in
    ap (λ b. if b then Err TooMany else r) yes

-- ---- names with what they name

pub named-names : (names : List (List ℕ)) (specs : List TapSpec) → length names ≡ length specs → map (λ (t : NamedTap). t.name) (named names specs) ≡ names
named-names [] specs same = refl
named-names (n ∷ ns) [] same = absurd (omega (arith, same))
named-names (n ∷ ns) (s ∷ ss) same = ap (λ l. n ∷ l) (named-names ns ss (omega (arith, same)))

pub named-specs : (names : List (List ℕ)) (specs : List TapSpec) → length names ≡ length specs → map (λ (t : NamedTap). t.spec) (named names specs) ≡ specs
named-specs [] [] same = refl
named-specs [] (s ∷ ss) same = absurd (omega (arith, same))
named-specs (n ∷ ns) [] same = absurd (omega (arith, same))
named-specs (n ∷ ns) (s ∷ ss) same = ap (λ l. s ∷ l) (named-specs ns ss (omega (arith, same)))

pub named-more : (names : List (List ℕ)) (specs : List TapSpec) (t : NamedTap) → length names ≡ length specs → named (names ++ t.name ∷ []) (specs ++ t.spec ∷ []) ≡ named names specs ++ t ∷ []
named-more [] [] t same = refl
named-more [] (s ∷ ss) t same = absurd (omega (arith, same))
named-more (n ∷ ns) [] t same = absurd (omega (arith, same))
named-more (n ∷ ns) (s ∷ ss) t same = ap (λ l. record { name = n; spec = s } ∷ l) (named-more ns ss t (omega (arith, same)))

pub tap-added : (names names' : List (List ℕ)) (specs specs' : List TapSpec) (t : NamedTap) → length names ≡ length specs → names' ≡ names ++ t.name ∷ [] → specs' ≡ specs ++ t.spec ∷ [] → named names' specs' ≡ named names specs ++ t ∷ []
tap-added names names' specs specs' t same n s = ap (λ ns. named ns specs') n ∙ ap (λ ss. named (names ++ t.name ∷ []) ss) s ∙ named-more names specs t same

pub count-names : {Z : Type 0} (names : List (String Z)) → length (names_of names) ≡ length names
count-names names = length-map names string_bytes

-- ---- taps

module _ (version : Version) (names : List (List ℕ)) (i : ℕ) (vs : List Value) (x : Value) (within : i < length vs) (is : x ≡ get_or vs i x) where
  -- one more tap is read, and the rest is left
  pub tap-read : (table : Members) (t : NamedTap) (before : List NamedTap) → item_in (Tap i) (view x) ≡ Ok table → tap_in version names (Tap i) table ≡ Ok t
      → and_then (taps_from version names i (items_view (drop i vs))) (λ ts. Ok (before ++ ts))
      ≡ and_then (taps_from version (names ++ t.name ∷ []) (i + 1) (items_view (drop (i + 1) vs))) (λ ts. Ok ((before ++ t ∷ []) ++ ts))
  unfolding taps_from
  tap-read table t before found read =
      ap (λ ds. and_then (taps_from version names i ds) (λ ts. Ok (before ++ ts))) (front vs i x within is)
      ∙ ap (λ r. and_then r (λ ts. Ok (before ++ ts))) (then_ok (item_in (Tap i) (view x)) table _ _ found (then_ok (tap_in version names (Tap i) table) t _ _ read refl))
      ∙ one-more before t (taps_from version (names ++ t.name ∷ []) (i + 1) (items_view (drop (i + 1) vs)))

  -- the item is no table
  pub no-tap : (f : ScenarioFault) (before : List NamedTap) → Tells f (item_in (Tap i) (view x)) → Tells f (and_then (taps_from version names i (items_view (drop i vs))) (λ ts. Ok (before ++ ts)))
  unfolding taps_from
  no-tap f before told = subst (λ ds. Tells f (and_then (taps_from version names i ds) (λ (ts : List NamedTap). Ok (before ++ ts)))) (sym (front vs i x within is))
      (then_tells f _ _ (then_tells f (item_in (Tap i) (view x)) _ told))

  -- the table describes no tap
  pub bad-tap : (f : ScenarioFault) (table : Members) (before : List NamedTap) → item_in (Tap i) (view x) ≡ Ok table → Tells f (tap_in version names (Tap i) table)
      → Tells f (and_then (taps_from version names i (items_view (drop i vs))) (λ ts. Ok (before ++ ts)))
  unfolding taps_from
  bad-tap f table before found told = subst (λ ds. Tells f (and_then (taps_from version names i ds) (λ (ts : List NamedTap). Ok (before ++ ts)))) (sym (front vs i x within is))
      (then_tells f _ _ (then_tells_next f (item_in (Tap i) (view x)) table _ found (then_tells f (tap_in version names (Tap i) table) _ told)))

no-taps : (version : Version) (names : List (List ℕ)) (tap : ℕ) (before : List NamedTap) → and_then (taps_from version names tap no_items) (λ ts. Ok (before ++ ts)) ≡ Ok before
unfolding taps_from
no-taps version names tap before = ap (λ l. Ok l) (append-nil before)

-- all taps are read
pub taps-read : (version : Version) (names : List (List ℕ)) (i : ℕ) (vs : List Value) (before : List NamedTap) → length vs ≤ i → and_then (taps_from version names i (items_view (drop i vs))) (λ ts. Ok (before ++ ts)) ≡ Ok before
taps-read version names i vs before all = ap (λ ds. and_then (taps_from version names i ds) (λ ts. Ok (before ++ ts))) (nothing-left vs i all) ∙ no-taps version names i before

-- ---- steps

module _ {X : Type 0} (read : ℕ → Section → Members → Result X Fault) (at : X → ℕ) (before i : ℕ) (vs : List Value) (x : Value) (within : i < length vs) (is : x ≡ get_or vs i x) where
  -- one more step is read, and the rest is left
  pub step-read : (table : Members) (s : X) (past : List X) → item_in (Step i) (view x) ≡ Ok table → read before (Step i) table ≡ Ok s
      → and_then (items_from read at before i (items_view (drop i vs))) (λ ss. Ok (past ++ ss))
      ≡ and_then (items_from read at (at s) (i + 1) (items_view (drop (i + 1) vs))) (λ ss. Ok ((past ++ s ∷ []) ++ ss))
  unfolding items_from
  step-read table s past found was =
      ap (λ ds. and_then (items_from read at before i ds) (λ ss. Ok (past ++ ss))) (front vs i x within is)
      ∙ ap (λ r. and_then r (λ ss. Ok (past ++ ss))) (then_ok (item_in (Step i) (view x)) table _ _ found (then_ok (read before (Step i) table) s _ _ was refl))
      ∙ one-more past s (items_from read at (at s) (i + 1) (items_view (drop (i + 1) vs)))

  -- the item is no table
  pub no-step : (f : ScenarioFault) (past : List X) → Tells f (item_in (Step i) (view x)) → Tells f (and_then (items_from read at before i (items_view (drop i vs))) (λ ss. Ok (past ++ ss)))
  unfolding items_from
  no-step f past told = subst (λ ds. Tells f (and_then (items_from read at before i ds) (λ (ss : List X). Ok (past ++ ss)))) (sym (front vs i x within is))
      (then_tells f _ _ (then_tells f (item_in (Step i) (view x)) _ told))

  -- the table describes no step
  pub bad-step : (f : ScenarioFault) (table : Members) (past : List X) → item_in (Step i) (view x) ≡ Ok table → Tells f (read before (Step i) table)
      → Tells f (and_then (items_from read at before i (items_view (drop i vs))) (λ ss. Ok (past ++ ss)))
  unfolding items_from
  bad-step f table past found told = subst (λ ds. Tells f (and_then (items_from read at before i ds) (λ (ss : List X). Ok (past ++ ss)))) (sym (front vs i x within is))
      (then_tells f _ _ (then_tells_next f (item_in (Step i) (view x)) table _ found (then_tells f (read before (Step i) table) _ told)))

no-steps : {X : Type 0} (read : ℕ → Section → Members → Result X Fault) (at : X → ℕ) (before place : ℕ) (past : List X) → and_then (items_from read at before place no_items) (λ ss. Ok (past ++ ss)) ≡ Ok past
unfolding items_from
no-steps read at before place past = ap (λ l. Ok l) (append-nil past)

-- all steps are read
pub steps-read : {X : Type 0} (read : ℕ → Section → Members → Result X Fault) (at : X → ℕ) (before i : ℕ) (vs : List Value) (past : List X) → length vs ≤ i → and_then (items_from read at before i (items_view (drop i vs))) (λ ss. Ok (past ++ ss)) ≡ Ok past
steps-read read at before i vs past all = ap (λ ds. and_then (items_from read at before i ds) (λ ss. Ok (past ++ ss))) (nothing-left vs i all) ∙ no-steps read at before i past
