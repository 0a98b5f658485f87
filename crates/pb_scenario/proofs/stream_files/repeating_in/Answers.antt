-- What was read is put together, or the first fault of the steps ends the reading.
use Rattle.std.proofs.Common.{◌≡◌, ◌∙◌, ℕ, List, [], Ok, Option, map, length, ap, min, sym, subst}
use Rattle.std.proofs.lemmas.List.{length-map}
use Rattle.toml.specs.Data.{as_table, as_array}
use Rattle.toml.specs.View.{array_view, items_view, table_view}
use Rattle.pb_timers.specs.Timers.{Params}
use Rattle.law_model.specs.Medium.{TapSpec}
use Rattle.law_runs.specs.Scenarios.{Planned}
use Rattle.pb_taps.specs.Taps.{spec_of}
use Rattle.pb_scenario.specs.declared.keys.Key.TheVariants as key
use Rattle.pb_scenario.specs.declared.keys.Section.TheVariants.{Top, Bus}
use Rattle.pb_scenario.specs.declared.repeats.Repeat.{Repeat}
use Rattle.pb_scenario.specs.declared.versions.Version.TheVariants.{Repeating}
use Rattle.pb_scenario.specs.Fields.{Tells, known, typed}
use Rattle.pb_scenario.specs.Files.{NamedTap, number, if_there, params_in, taps_in}
use Rattle.pb_scenario.specs.Keys.{top_keys}
use Rattle.pb_scenario.specs.RepeatedTables.{all_of}
use Rattle.pb_scenario.specs.Repeats.{StreamView, stream_until}
use Rattle.pb_scenario.specs.Scenarios.{ScenarioView, names_of, until_limit}
use Rattle.pb_scenario.specs.Steps.{planned_of, steps_of}
use Rattle.pb_scenario.specs.StreamFiles.{RepeatedStep, listed_repeated, repeating_in, with_repeated}
use Rattle.pb_scenario.specs.Tables.{taps_of}
use Rattle.pb_scenario.proofs.Chains.{then_ok, then_tells, then_tells_next}
use Rattle.pb_scenario.proofs.Listing.{count-names, named-names, named-specs}
use Rattle.pb_scenario.proofs.Moving.{in-err}
use Rattle.pb_scenario.proofs.Repeating.{paired-repeats, paired-steps}
use Rattle.pb_scenario.proofs.stream_files.repeating_in.Goals as goal

made-of : (s : ScenarioView) (params : Params) (taps : List TapSpec) (names : List (List ℕ)) (steps : List Planned) (until : ℕ)
    → s.scenario.params ≡ params → s.scenario.taps ≡ taps → s.names ≡ names → s.scenario.steps ≡ steps → s.scenario.until ≡ until
    → record { scenario = record { params = params; taps = taps; steps = steps; until = until }; names = names } ≡ s
made-of s params taps names steps until p t n st u =
    let whole : Params → List TapSpec → List (List ℕ) → List Planned → ℕ → ScenarioView = λ a b c d e. record { scenario = record { params = a; taps = b; steps = d; until = e }; names = c } in
    ap (λ x. whole x taps names steps until) (sym p)
    ∙ ap (λ x. whole s.scenario.params x names steps until) (sym t)
    ∙ ap (λ x. whole s.scenario.params s.scenario.taps x steps until) (sym n)
    ∙ ap (λ x. whole s.scenario.params s.scenario.taps s.names x until) (sym st)
    ∙ ap (λ x. whole s.scenario.params s.scenario.taps s.names s.scenario.steps x) (sym u)

pub returns-in_err-all : goal.returns-in_err-all
unfolding repeating_in with_repeated
returns-in_err-all c =
    let top = table_view c.args.table.now in
    let bus = table_view c.in_ok-table.field-0.now in
    let list = array_view c.in_ok-list.field-0.now in
    let taps = c.in_ok-taps.taps in
    let f = c.in_err-all.field-0.0 in
    let as_many : length (names_of taps.names.keys) ≡ length (map spec_of taps.specs.items) = count-names taps.names.keys ∙ c.in_ok-taps.ensures.named ∙ sym (length-map taps.specs.items spec_of) in
    let names : map (λ (t : NamedTap). t.name) (taps_of taps) ≡ names_of taps.names.keys = named-names (names_of taps.names.keys) (map spec_of taps.specs.items) as_many in
    let read : taps_in Repeating list ≡ Ok (taps_of taps) = ap (λ vs. taps_in Repeating (items_view vs)) (sym c.deref.ensures.value) ∙ c.in_ok-taps.ensures.taps in
    let told : Tells f (if_there [] (listed_repeated (map (λ (t : NamedTap). t.name) (taps_of taps))) Top key.Step top) =
    subst (λ ns. Tells f (if_there [] (listed_repeated ns) Top key.Step top)) (sym names) c.in_err-all.ensures.steps in
    in-err _ _ c.from_residual-in_err-all.result f c.from_residual-in_err-all.ensures.0 c.from_residual-in_err-all.ensures.1
    (then_tells_next f (known top_keys Top top) _ _ c.in_ok-known.ensures
    (then_tells_next f (number 1 stream_until Top key.Until top) c.in_ok-until.until _ c.in_ok-until.ensures.value
    (then_tells_next f (typed as_table Top key.Bus top) bus _ c.in_ok-table.ensures
    (then_tells_next f (params_in Repeating Bus bus) c.in_ok-params.params _ c.in_ok-params.ensures
    (then_tells_next f (typed as_array Top key.Tap top) list _ c.in_ok-list.ensures
    (then_tells_next f (taps_in Repeating list) (taps_of taps) _ read
    (then_tells f (if_there [] (listed_repeated (map (λ (t : NamedTap). t.name) (taps_of taps))) Top key.Step top) _ told)))))))

pub returns : goal.returns
unfolding repeating_in with_repeated
returns c =
    let top = table_view c.args.table.now in
    let bus = table_view c.in_ok-table.field-0.now in
    let list = array_view c.in_ok-list.field-0.now in
    let taps = c.in_ok-taps.taps in
    let until = c.in_ok-until.until in
    let params = c.in_ok-params.params in
    let all = c.in_ok-all.all in
    let pairs = all_of all in
    let as_many : length (names_of taps.names.keys) ≡ length (map spec_of taps.specs.items) = count-names taps.names.keys ∙ c.in_ok-taps.ensures.named ∙ sym (length-map taps.specs.items spec_of) in
    let names : map (λ (t : NamedTap). t.name) (taps_of taps) ≡ names_of taps.names.keys = named-names (names_of taps.names.keys) (map spec_of taps.specs.items) as_many in
    let specs : map (λ (t : NamedTap). t.spec) (taps_of taps) ≡ map spec_of taps.specs.items = named-specs (names_of taps.names.keys) (map spec_of taps.specs.items) as_many in
    let as_paired : length (steps_of all.steps.items) ≡ length all.repeats.items = length-map all.steps.items planned_of ∙ c.in_ok-all.ensures.paired in
    let steps : map (λ (s : RepeatedStep). s.step) pairs ≡ steps_of all.steps.items = paired-steps (steps_of all.steps.items) all.repeats.items as_paired in
    let repeats : map (λ (s : RepeatedStep). s.repeat) pairs ≡ all.repeats.items = paired-repeats (steps_of all.steps.items) all.repeats.items as_paired in
    let read : taps_in Repeating list ≡ Ok (taps_of taps) = ap (λ vs. taps_in Repeating (items_view vs)) (sym c.deref.ensures.value) ∙ c.in_ok-taps.ensures.taps in
    let found : if_there [] (listed_repeated (map (λ (t : NamedTap). t.name) (taps_of taps))) Top key.Step top ≡ Ok pairs =
    ap (λ ns. if_there [] (listed_repeated ns) Top key.Step top) names ∙ c.in_ok-all.ensures.steps in
    let once = made-of c.new-once.result params (map (λ (t : NamedTap). t.spec) (taps_of taps)) (map (λ (t : NamedTap). t.name) (taps_of taps)) (map (λ (s : RepeatedStep). s.step) pairs) (min until until_limit)
    c.new-once.ensures.params (c.new-once.ensures.taps ∙ sym specs) (c.new-once.ensures.names ∙ sym names) (c.new-once.ensures.steps ∙ sym steps) (c.new-once.ensures.until ∙ c.min.ensures) in
    let view : ScenarioView → List (Option Repeat) → StreamView = λ s rs. record { once = s; repeats = rs; until = until } in
    let whole = ap (λ s. view s (map (λ (s : RepeatedStep). s.repeat) pairs)) once ∙ ap (view c.new-once.result) repeats ∙ sym c.new.ensures in
    then_ok (known top_keys Top top) _ _ _ c.in_ok-known.ensures
    (then_ok (number 1 stream_until Top key.Until top) until _ _ c.in_ok-until.ensures.value
    (then_ok (typed as_table Top key.Bus top) bus _ _ c.in_ok-table.ensures
    (then_ok (params_in Repeating Bus bus) params _ _ c.in_ok-params.ensures
    (then_ok (typed as_array Top key.Tap top) list _ _ c.in_ok-list.ensures
    (then_ok (taps_in Repeating list) (taps_of taps) _ _ read
    (then_ok (if_there [] (listed_repeated (map (λ (t : NamedTap). t.name) (taps_of taps))) Top key.Step top) pairs _ _ found (ap (λ s. Ok s) whole)))))))
