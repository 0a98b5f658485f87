use Rattle.std.proofs.Common.{◌∙◌, ◌++◌, ◌+◌, ◌*◌, ℕ, ap, refl, arith}
use Rattle.pb_export.specs.Places.{row_begin}
use Rattle.pb_export.specs.Lanes.{mark_if, marks_from}
use Rattle.pb_export.proofs.Loops.{count-step}
use Rattle.pb_export.proofs.lanes.push_marks.Goals as goal

pub loop-step-preserved : goal.loop-step-preserved
loop-step-preserved c =
    let sheet = c.args.sheet in
    let strip = c.args.strip in
    let k = c.loop-step.step in
    let before = c.loop-step.text.items in
    count-step (marks_from sheet strip) (λ n. mark_if sheet strip (row_begin sheet strip + n * 100)) k 5 before c.push_mark_if.new.text.items _
    (λ n m. refl) (omega (arith, c.loop-step-test.true))
    (c.in_ok-push_mark_if.ensures ∙ ap (λ (n : ℕ). before ++ mark_if sheet strip (n + strip * 500 + k * 100)) c.from.ensures.value) c.loop-step.invariant
