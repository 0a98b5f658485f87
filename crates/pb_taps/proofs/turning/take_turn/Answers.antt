use Rattle.std.proofs.Common.{◌∙◌, ap, sym, subst}
use Rattle.std.specs.Prelude.{slice_set}
use Rattle.law_model.specs.Laws.{InOrder}
use Rattle.pb_taps.specs.Turning.{turned_tap, says}
use Rattle.pb_taps.specs.declared.taps.Tap.{Tap}
use Rattle.pb_taps.proofs.Items.{found-at}
use Rattle.pb_taps.proofs.Seats.{order-at}
use Rattle.pb_taps.proofs.turning.take_turn.Goals as goal

pub turn-requires-clause-order : goal.turn-requires-clause-order
turn-requires-clause-order c =
    let x = c.index-taps-tap.result in
    subst (λ (t : Tap). InOrder 0 t.marks c.args.now) c.index-taps-tap.is
    (order-at c.args.now c.args.taps.now c.args.tap x c.requires.order (found-at c.args.taps.now c.args.tap x c.requires.place c.index-taps-tap.is))

pub returns : goal.returns
returns c =
    let x = c.index-taps-tap.result in (
      x,
      found-at c.args.taps.now c.args.tap x c.requires.place c.index-taps-tap.is,
      ap (slice_set c.args.taps.now c.args.tap) (c.turn.ensures.tap ∙ ap (λ (t : Tap). turned_tap t c.args.now) (sym c.index-taps-tap.is)),
      c.turn.ensures.said ∙ ap (λ (t : Tap). says t c.args.now) (sym c.index-taps-tap.is),
    )
