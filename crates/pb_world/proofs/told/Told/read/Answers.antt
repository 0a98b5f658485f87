use Rattle.std.proofs.Common.{◌∙◌, ap, sym, length, map, arith}
use Rattle.std.proofs.lemmas.Bool.{ltb-true, ltb-false}
use Rattle.std.proofs.lemmas.Option.{slice_get_past}
use Rattle.pb_station.specs.Indications.{fields_of}
use Rattle.pb_taps.proofs.Items.{found-at}
use Rattle.pb_taps.proofs.Seats.{order-at}
use Rattle.pb_world.specs.Told.{executed_by_tap}
use Rattle.pb_world.proofs.told.Told.read.Goals as goal

pub would_execute-requires-clause-order : goal.would_execute-requires-clause-order
would_execute-requires-clause-order c =
    let taps = c.args.taps.now in
    let found = c.in-Some.ensures.lookup in
    order-at c.args.now taps c.args.tap c.in-Some.tap.now c.requires.order
    (found-at taps c.args.tap c.in-Some.tap.now (ltb-true c.args.tap (length taps) (sym found.0)) found.1)

pub returns-in-Some-clause-news : goal.returns-in-Some-clause-news
returns-in-Some-clause-news c =
    let taps = c.args.taps.now in
    let found = c.in-Some.ensures.lookup in
    c.would_execute.ensures.told
    ∙ ap executed_by_tap (sym (found-at taps c.args.tap c.in-Some.tap.now (ltb-true c.args.tap (length taps) (sym found.0)) found.1))

pub returns-in-None-clause-news : goal.returns-in-None-clause-news
returns-in-None-clause-news c =
    let taps = c.args.taps.now in
    let past = slice_get_past taps c.args.tap (omega (arith, ltb-false c.args.tap (length taps) (sym c.in-None.ensures.lookup.0))) in
    ap (map fields_of) c.clear.ensures.items ∙ ap executed_by_tap (sym past)
