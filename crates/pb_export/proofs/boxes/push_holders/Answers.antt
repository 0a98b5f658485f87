use Rattle.std.proofs.Common.{◌∙◌, ◌++◌, ◌+◌, ap, refl}
use Rattle.pb_export.specs.declared.places.Stretch.{Stretch}
use Rattle.pb_export.specs.Places.{part}
use Rattle.pb_export.specs.Boxes.{holder_in, holders_from}
use Rattle.pb_export.proofs.Loops.{count-step}
use Rattle.pb_export.proofs.boxes.push_holders.Goals as goal

pub loop-strip-preserved : goal.loop-strip-preserved
loop-strip-preserved c =
    let sheet = c.args.sheet in
    let x = c.args.stretch in
    let name = c.args.holder.now in
    let before = c.loop-strip.text.items in
    count-step (holders_from sheet x name) (λ k. holder_in sheet (part sheet x k) name) c.loop-strip.strip (c.strip-rows.result + 1) before c.push_holder.new.text.items _
    (λ k n. refl) c.loop-strip-test.true
    (c.in_ok-push_holder.ensures ∙ ap (λ (y : Stretch). before ++ holder_in sheet y name) c.part.ensures.value) c.loop-strip.invariant
