-- One step more is read, or the first fault ends the reading.
use Rattle.std.proofs.Common.{arith, ◌≡◌, ◌∙◌, ◌+◌, ◌++◌, ◌∷◌, [], IfOk, Ok, List, Option, ap, drop, length, length-append, map, subst, sym}
use Rattle.std.proofs.lemmas.List.{length-map, map-append}
use Rattle.toml.specs.View.{items_view}
use Rattle.law_runs.specs.Laws.{AreFromOutside}
use Rattle.law_runs.specs.Scenarios.{Planned}
use Rattle.pb_scenario.specs.declared.repeats.Repeat.{Repeat}
use Rattle.pb_scenario.specs.Fields.{Tells, and_then}
use Rattle.pb_scenario.specs.RepeatedTables.{all_of, paired, repeated_of}
use Rattle.pb_scenario.specs.Repeats.{AreSteady}
use Rattle.pb_scenario.specs.Scenarios.{names_of}
use Rattle.pb_scenario.specs.Steps.{planned_of, steps_of}
use Rattle.pb_scenario.specs.StreamFiles.{RepeatedStep, repeated_from, repeated_step_in}
use Rattle.pb_scenario.specs.Tables.{members}
use Rattle.pb_scenario.specs.Walks.{AreFrom}
use Rattle.pb_scenario.proofs.Listing.{bad-step, few-items, many-items, no-step, on-ok, step-read, steps-read}
use Rattle.pb_scenario.proofs.Moving.{in-err}
use Rattle.pb_scenario.proofs.Repeating.{AreNext, all-later, paired-more, paired-repeats, paired-steps}
use Rattle.pb_scenario.proofs.repeated_steps.repeated_steps_in.Goals as goal

pub returns-then-items-gt-MOST_STEPS-clause-steps : goal.returns-then-items-gt-MOST_STEPS-clause-steps
returns-then-items-gt-MOST_STEPS-clause-steps c = many-items 10000 c.args.items.now _ c.if-items-gt-MOST_STEPS.true

pub returns-in_err-fields-clause-steps : goal.returns-in_err-fields-clause-steps
returns-in_err-fields-clause-steps c =
    let names = names_of c.args.names.now.keys in
    let vs = c.args.items.now in
    let l = c.loop-place in
    let f = c.in_err-fields.field-0.0 in
    let whole = few-items 10000 vs (repeated_from names 0 0 (items_view vs)) c.if-items-gt-MOST_STEPS.false ∙ l.invariant.steps in
    in-err _ _ c.from_residual.result f c.from_residual.ensures.0 c.from_residual.ensures.1
    (subst (λ r. Tells f r) (sym whole)
    (no-step (repeated_step_in names) (λ (s : RepeatedStep). s.step.at) l.before l.place vs c.index-items-place.result c.loop-place-test.true c.index-items-place.is f (all_of l.all) c.in_err-fields.ensures.members))

pub returns-in_err-read-clause-steps : goal.returns-in_err-read-clause-steps
returns-in_err-read-clause-steps c =
    let names = names_of c.args.names.now.keys in
    let vs = c.args.items.now in
    let l = c.loop-place in
    let f = c.in_err-read.field-0.0 in
    let fields = c.in_ok-fields.fields in
    let whole = few-items 10000 vs (repeated_from names 0 0 (items_view vs)) c.if-items-gt-MOST_STEPS.false ∙ l.invariant.steps in
    let told = subst (λ at. Tells f (repeated_step_in names l.before at (members fields))) c.in_ok-fields.ensures.section c.in_err-read.ensures in
    in-err _ _ c.from_residual-in_err-read.result f c.from_residual-in_err-read.ensures.0 c.from_residual-in_err-read.ensures.1
    (subst (λ r. Tells f r) (sym whole)
    (bad-step (repeated_step_in names) (λ (s : RepeatedStep). s.step.at) l.before l.place vs c.index-items-place.result c.loop-place-test.true c.index-items-place.is f (members fields) (all_of l.all) c.in_ok-fields.ensures.members told))

pub loop-place-preserved : goal.loop-place-preserved
loop-place-preserved c =
    let vs = c.args.items.now in
    let l = c.loop-place in
    let i = l.place in
    let names = names_of c.args.names.now.keys in
    let s = repeated_of c.in_ok-read.read in
    let new = c.add.new.self in
    let fields = c.in_ok-fields.fields in
    let read = subst (λ at. repeated_step_in names l.before at (members fields) ≡ Ok s) c.in_ok-fields.ensures.section c.in_ok-read.ensures in
    let steps : new.steps.items ≡ l.all.steps.items ++ c.in_ok-read.read.step ∷ [] = on-ok _ c.add.result c.add.ensures.steps c.if-is_err.ensures.value in
    let repeats : new.repeats.items ≡ l.all.repeats.items ++ s.repeat ∷ [] = on-ok _ c.add.result c.add.ensures.repeats c.if-is_err.ensures.value in
    let planned : steps_of new.steps.items ≡ steps_of l.all.steps.items ++ s.step ∷ [] = ap steps_of steps ∙ map-append planned_of l.all.steps.items (c.in_ok-read.read.step ∷ []) in
    let as_many : length (steps_of l.all.steps.items) ≡ length l.all.repeats.items = length-map l.all.steps.items planned_of ∙ l.invariant.paired in
    let added : all_of new ≡ all_of l.all ++ s ∷ [] =
    ap (λ (xs : List Planned). paired xs new.repeats.items) planned
    ∙ ap (λ (rs : List (Option Repeat)). paired (steps_of l.all.steps.items ++ s.step ∷ []) rs) repeats
    ∙ paired-more (steps_of l.all.steps.items) l.all.repeats.items s as_many in
    record {
      steps = l.invariant.steps
          ∙ step-read (repeated_step_in names) (λ (x : RepeatedStep). x.step.at) l.before i vs c.index-items-place.result c.loop-place-test.true c.index-items-place.is (members fields) s (all_of l.all) c.in_ok-fields.ensures.members read
          ∙ ap (λ (past : List RepeatedStep). and_then (repeated_from names s.step.at (i + 1) (items_view (drop (i + 1) vs))) (λ ss. Ok (past ++ ss))) (sym added);
      paired = ap length steps ∙ length-append l.all.steps.items (c.in_ok-read.read.step ∷ []) ∙ ap (λ n. n + 1) l.invariant.paired
          ∙ sym (length-append l.all.repeats.items (s.repeat ∷ [])) ∙ ap length (sym repeats);
    }

pub returns-clause-steps : goal.returns-clause-steps
returns-clause-steps c =
    let names = names_of c.args.names.now.keys in
    let vs = c.args.items.now in
    let l = c.loop-place in
    few-items 10000 vs (repeated_from names 0 0 (items_view vs)) c.if-items-gt-MOST_STEPS.false ∙ l.invariant.steps
    ∙ steps-read (repeated_step_in names) (λ (s : RepeatedStep). s.step.at) l.before l.place vs (all_of l.all) c.loop-place-test.false

pub returns-clause-order : goal.returns-clause-order
returns-clause-order c =
    let names = names_of c.args.names.now.keys in
    let vs = c.args.items.now in
    let l = c.loop-place in
    let later : AreNext 0 (all_of l.all) =
    subst (λ r. IfOk r (AreNext 0)) (l.invariant.steps ∙ steps-read (repeated_step_in names) (λ (s : RepeatedStep). s.step.at) l.before l.place vs (all_of l.all) c.loop-place-test.false) (all-later names 0 0 (items_view vs)) in
    subst (AreFrom 0) (paired-steps (steps_of l.all.steps.items) l.all.repeats.items (length-map l.all.steps.items planned_of ∙ l.invariant.paired)) later.order

pub returns-clause-outside : goal.returns-clause-outside
returns-clause-outside c =
    let names = names_of c.args.names.now.keys in
    let vs = c.args.items.now in
    let l = c.loop-place in
    let later : AreNext 0 (all_of l.all) =
    subst (λ r. IfOk r (AreNext 0)) (l.invariant.steps ∙ steps-read (repeated_step_in names) (λ (s : RepeatedStep). s.step.at) l.before l.place vs (all_of l.all) c.loop-place-test.false) (all-later names 0 0 (items_view vs)) in
    subst AreFromOutside (paired-steps (steps_of l.all.steps.items) l.all.repeats.items (length-map l.all.steps.items planned_of ∙ l.invariant.paired)) later.outside

pub returns-clause-steady : goal.returns-clause-steady
returns-clause-steady c =
    let names = names_of c.args.names.now.keys in
    let vs = c.args.items.now in
    let l = c.loop-place in
    let later : AreNext 0 (all_of l.all) =
    subst (λ r. IfOk r (AreNext 0)) (l.invariant.steps ∙ steps-read (repeated_step_in names) (λ (s : RepeatedStep). s.step.at) l.before l.place vs (all_of l.all) c.loop-place-test.false) (all-later names 0 0 (items_view vs)) in
    subst AreSteady (paired-repeats (steps_of l.all.steps.items) l.all.repeats.items (length-map l.all.steps.items planned_of ∙ l.invariant.paired)) later.steady
