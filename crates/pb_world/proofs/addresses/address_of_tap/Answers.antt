use Rattle.std.proofs.Common.{◌∙◌, sym, Some, None}
use Rattle.std.proofs.lemmas.Bool.{ltb-true}
use Rattle.pb_taps.proofs.Items.{found-at}
use Rattle.pb_world.proofs.Legal.{address-of, missing-at}
use Rattle.pb_world.proofs.addresses.address_of_tap.Goals as goal

pub returns-in-Some : goal.returns-in-Some
returns-in-Some c =
    let found = c.in-Some.ensures.lookup in
    let t = c.in-Some.tap.now in
    c.address.ensures.value ∙ address-of c.args.taps.now c.args.tap (Some t) (found-at c.args.taps.now c.args.tap t (ltb-true _ _ (sym found.0)) found.1)

pub returns-in-None : goal.returns-in-None
returns-in-None c =
    let found = c.in-None.ensures.lookup in
    address-of c.args.taps.now c.args.tap None (missing-at c.args.taps.now c.args.tap found.3)
