use Rattle.std.proofs.Common.{◌∙◌, ap, sym, length}
use Rattle.std.specs.Prelude.{slice_get}
use Rattle.std.proofs.lemmas.Bool.{ltb-true}
use Rattle.pb_taps.proofs.Items.{found-at}
use Rattle.pb_world.proofs.Dues.{due-running}
use Rattle.pb_world.proofs.buses.Bus.due.Goals as goal

pub returns : goal.returns
returns c =
    let t = c.in_ok-tap.tap.now in
    let found = c.in_ok-tap.ensures.lookup in
    let at = ap (λ xs. slice_get xs c.args.tap) (sym c.deref.ensures.value)
    ∙ found-at c.deref.result.now c.args.tap t (ltb-true c.args.tap (length c.deref.result.now) (sym found.0)) found.1 in
    c.due.ensures ∙ due-running c.args.self.now c.args.tap t c.requires.seats at c.if-not-tap.false
