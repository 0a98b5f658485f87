-- One step more is read, or the first fault ends the reading.
use Rattle.std.proofs.Common.{◌∙◌, IfOk, sym, subst}
use Rattle.toml.specs.View.{items_view}
use Rattle.law_runs.specs.Scenarios.{Planned}
use Rattle.pb_scenario.specs.Steps.{steps_of}
use Rattle.pb_scenario.specs.Scenarios.{names_of}
use Rattle.pb_scenario.specs.Fields.{Tells}
use Rattle.pb_scenario.specs.Tables.{members}
use Rattle.pb_scenario.specs.Files.{step_in, steps_from}
use Rattle.pb_scenario.proofs.Listing.{few-items, many-items, no-step, bad-step, steps-read}
use Rattle.pb_scenario.proofs.Moving.{in-err}
use Rattle.pb_scenario.proofs.Ordering.{AreLater, steps-later}
use Rattle.pb_scenario.proofs.steps.steps_in.Goals as goal

pub returns-then-items-gt-MOST_STEPS-clause-steps : goal.returns-then-items-gt-MOST_STEPS-clause-steps
returns-then-items-gt-MOST_STEPS-clause-steps c = many-items 10000 c.args.items.now _ c.if-items-gt-MOST_STEPS.true

pub returns-in_err-item-clause-steps : goal.returns-in_err-item-clause-steps
returns-in_err-item-clause-steps c =
    let names = names_of c.args.names.now.keys in
    let vs = c.args.items.now in
    let l = c.loop-place in
    let f = c.in_err-item.field-0.0 in
    let whole = few-items 10000 vs (steps_from names 0 0 (items_view vs)) c.if-items-gt-MOST_STEPS.false ∙ l.invariant in
    in-err _ _ c.from_residual.result f c.from_residual.ensures.0 c.from_residual.ensures.1
    (subst (λ r. Tells f r) (sym whole)
    (no-step (step_in names) (λ (s : Planned). s.at) l.before l.place vs c.index-items-place.result c.loop-place-test.true c.index-items-place.is f (steps_of l.steps.items) c.in_err-item.ensures.members))

pub returns-in_err-step-clause-steps : goal.returns-in_err-step-clause-steps
returns-in_err-step-clause-steps c =
    let names = names_of c.args.names.now.keys in
    let vs = c.args.items.now in
    let l = c.loop-place in
    let f = c.in_err-step.field-0.0 in
    let fields = c.in_ok-item.field-0 in
    let whole = few-items 10000 vs (steps_from names 0 0 (items_view vs)) c.if-items-gt-MOST_STEPS.false ∙ l.invariant in
    let told = subst (λ at. Tells f (step_in names l.before at (members fields))) c.in_ok-item.ensures.section c.in_err-step.ensures in
    in-err _ _ c.from_residual-in_err-step.result f c.from_residual-in_err-step.ensures.0 c.from_residual-in_err-step.ensures.1
    (subst (λ r. Tells f r) (sym whole)
    (bad-step (step_in names) (λ (s : Planned). s.at) l.before l.place vs c.index-items-place.result c.loop-place-test.true c.index-items-place.is f (members fields) (steps_of l.steps.items) c.in_ok-item.ensures.members told))

pub returns-clause-steps : goal.returns-clause-steps
returns-clause-steps c =
    let names = names_of c.args.names.now.keys in
    let vs = c.args.items.now in
    let l = c.loop-place in
    few-items 10000 vs (steps_from names 0 0 (items_view vs)) c.if-items-gt-MOST_STEPS.false ∙ l.invariant ∙ steps-read (step_in names) (λ (s : Planned). s.at) l.before l.place vs (steps_of l.steps.items) c.loop-place-test.false

pub returns-clause-order : goal.returns-clause-order
returns-clause-order c =
    let names = names_of c.args.names.now.keys in
    let vs = c.args.items.now in
    let l = c.loop-place in
    let later : AreLater 0 (steps_of l.steps.items) = subst (λ r. IfOk r (AreLater 0)) (l.invariant ∙ steps-read (step_in names) (λ (s : Planned). s.at) l.before l.place vs (steps_of l.steps.items) c.loop-place-test.false) (steps-later names 0 0 (items_view vs)) in
    later.order

pub returns-clause-outside : goal.returns-clause-outside
returns-clause-outside c =
    let names = names_of c.args.names.now.keys in
    let vs = c.args.items.now in
    let l = c.loop-place in
    let later : AreLater 0 (steps_of l.steps.items) = subst (λ r. IfOk r (AreLater 0)) (l.invariant ∙ steps-read (step_in names) (λ (s : Planned). s.at) l.before l.place vs (steps_of l.steps.items) c.loop-place-test.false) (steps-later names 0 0 (items_view vs)) in
    later.outside
