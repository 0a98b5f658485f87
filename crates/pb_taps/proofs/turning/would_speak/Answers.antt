use Rattle.std.proofs.Common.{◌∙◌, ap, sym}
use Rattle.std.specs.Prelude.{is_some}
use Rattle.std.proofs.lemmas.Option.{same_Some}
use Rattle.pb_taps.specs.Turning.{says}
use Rattle.pb_taps.specs.declared.taps.Tap.{Tap}
use Rattle.pb_taps.proofs.Items.{found-at}
use Rattle.pb_taps.proofs.Seats.{order-at}
use Rattle.pb_taps.proofs.turning.would_speak.Goals as goal

pub would_say-requires-clause-order : goal.would_say-requires-clause-order
would_say-requires-clause-order c =
    let x = c.index-taps-tap.result in
    order-at c.args.now c.args.taps.now c.args.tap x c.requires.order (found-at c.args.taps.now c.args.tap x c.requires.place c.index-taps-tap.is)

pub returns : goal.returns
returns c t there =
    let x = c.index-taps-tap.result in
    c.would_say.ensures
    ∙ ap (λ (y : Tap). is_some (says y c.args.now)) (same_Some x t (sym (found-at c.args.taps.now c.args.tap x c.requires.place c.index-taps-tap.is) ∙ there))
