use Rattle.std.proofs.Common.{◌∙◌, ap, sym, map, length, arith}
use Rattle.std.specs.Prelude.{slice_get}
use Rattle.std.specs.Option.{option_map}
use Rattle.std.proofs.lemmas.Bool.{ltb-true, ltb-false}
use Rattle.std.proofs.lemmas.List.{length-map}
use Rattle.std.proofs.lemmas.Option.{slice_get_past, slice_get-map}
use Rattle.pb_taps.specs.Taps.{tap_of}
use Rattle.pb_taps.proofs.Items.{found-at}
use Rattle.pb_taps.proofs.Seats.{seat-of-tap}
use Rattle.pb_world.proofs.buses.Bus.station.Goals as goal

pub returns-in-Some : goal.returns-in-Some
returns-in-Some c =
    let bus = c.args.self.now in
    let t = c.in-Some.tap.now in
    let found = c.in-Some.ensures.lookup in
    let at = ap (λ xs. slice_get xs c.args.tap) (sym c.deref.ensures.value)
    ∙ found-at c.deref.result.now c.args.tap t (ltb-true c.args.tap (length c.deref.result.now) (sym found.0)) found.1 in (
      tap_of t,
      slice_get-map tap_of bus.taps.items c.args.tap ∙ ap (option_map tap_of) at,
      ap (λ seat. record t.station { tap = seat.tap; params = seat.params }) (seat-of-tap bus.params bus.taps.items c.args.tap t c.requires.seats at),
    )

pub returns-in-None : goal.returns-in-None
returns-in-None c =
    let taps = c.deref.result.now in
    ap (λ xs. slice_get (map tap_of xs) c.args.tap) (sym c.deref.ensures.value)
    ∙ slice_get_past (map tap_of taps) c.args.tap (omega (arith, length-map taps tap_of, ltb-false c.args.tap (length taps) (sym c.in-None.ensures.lookup.0)))
