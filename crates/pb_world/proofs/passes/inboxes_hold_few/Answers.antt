use Rattle.std.proofs.Common.{◌∙◌, ◌+◌, ◌∷◌, ap, sym, map, drop, arith}
use Rattle.std.proofs.lemmas.List.{at_drop_more}
use Rattle.law_model.specs.Step as step
use Rattle.pb_taps.specs.Taps.{tap_of}
use Rattle.pb_taps.specs.declared.taps.Tap.{Tap}
use Rattle.pb_world.proofs.Passing.{full-later}
use Rattle.pb_world.proofs.passes.inboxes_hold_few.Goals as goal

pub loop-position-preserved : goal.loop-position-preserved
loop-position-preserved c =
    let taps = c.args.taps.now in
    let at = c.loop-position.position in
    let x = c.index-taps-position.result in
    let rest = map tap_of (drop (at + 1) taps) in
    c.loop-position.invariant
    ∙ ap (step.first_full at) (at_drop_more (map tap_of) taps at x c.loop-position-test.true ∙ ap (λ (t : Tap). tap_of t ∷ rest) (sym c.index-taps-position.is))
    ∙ full-later at (tap_of x) rest (omega (arith, c.len.ensures.value, c.len.ensures.few))
