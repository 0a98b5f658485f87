use Rattle.std.proofs.Common.{◌∙◌, ◌++◌, ◌+◌, ap, refl, sym, arith, Option, List, ℕ}
use Rattle.std.specs.Prelude.{slice_get}
use Rattle.std.proofs.lemmas.List.Concat.{flat_map-append}
use Rattle.pb_scenario.specs.declared.deeds.Step.{Step}
use Rattle.pb_scenario.specs.declared.repeats.Repeat.{Repeat}
use Rattle.pb_scenario.specs.Repeats.{all_of, happenings_from, repeat_in}
use Rattle.pb_scenario.specs.Steps.{planned_of, steps_of}
use Rattle.pb_taps.proofs.Items.{found-at}
use Rattle.pb_export.specs.Marks.{mark_if, marks_text}
use Rattle.pb_export.proofs.Loops.{item-step, item-end}
use Rattle.pb_export.proofs.marks.push_marks.Goals as goal

pub loop-place-preserved : goal.loop-place-preserved
loop-place-preserved c =
    let s = c.args.scenario.now in
    let sheet = c.args.sheet in
    let lanes = c.args.lanes.now in
    let until = c.args.steps.until in
    let repeats = c.args.steps.repeats.now in
    let xs = c.args.steps.once.now in
    let i = c.loop-place.place in
    let x = c.index-steps-place.result in
    let texts : ℕ → List Step → List ℕ = λ k ys. marks_text s sheet lanes (happenings_from until repeats k (steps_of ys)) in
    let one : ℕ → Step → List ℕ = λ k y. marks_text s sheet lanes (all_of until (planned_of y) (repeat_in (slice_get repeats k))) in
    let here = found-at xs i x (omega (arith, c.loop-place-test.true)) c.index-steps-place.is in
    let done = c.in_ok-push_step.ensures
    ∙ ap (λ (y : Step). c.loop-place.text.items ++ marks_text s sheet lanes (all_of until (planned_of y) c.repeat_of-repeat.result)) (sym c.index-steps-place.is)
    ∙ ap (λ (r : Option Repeat). c.loop-place.text.items ++ marks_text s sheet lanes (all_of until (planned_of x) r)) c.repeat_of-repeat.ensures.repeat in
    item-step texts one xs i x c.loop-place.text.items c.push_step.new.text.items _
    (λ k y ys. flat_map-append (mark_if s sheet lanes) (all_of until (planned_of y) (repeat_in (slice_get repeats k))) (happenings_from until repeats (k + 1) (steps_of ys)))
    here done c.loop-place.invariant

pub returns : goal.returns
returns c =
    let s = c.args.scenario.now in
    let sheet = c.args.sheet in
    let lanes = c.args.lanes.now in
    let texts : ℕ → List Step → List ℕ = λ k ys. marks_text s sheet lanes (happenings_from c.args.steps.until c.args.steps.repeats.now k (steps_of ys)) in
    item-end texts c.args.steps.once.now c.loop-place.place c.loop-place.text.items _
    (λ k. refl) (omega (arith, c.loop-place-test.false)) c.loop-place.invariant
