use Rattle.std.proofs.Common.{◌≡◌, ◌∙◌, ap, sym, subst, length, arith}
use Rattle.std.specs.Prelude.{is_some, slice_get}
use Rattle.std.specs.Vec.{with_items}
use Rattle.std.specs.Option.{option_map}
use Rattle.std.proofs.lemmas.List.{length-map, length-set}
use Rattle.std.proofs.lemmas.Option.{slice_get-map, slice_get_within}
use Rattle.law_turn.specs.Turns.{turn_of}
use Rattle.pb_world.specs.Buses.{world_of}
use Rattle.pb_taps.specs.Taps.{tap_of}
use Rattle.pb_taps.specs.Turning.{says, turned_tap, Runs, TakesTurn}
use Rattle.pb_taps.proofs.Behind.{written-back}
use Rattle.pb_taps.proofs.Seats.{seat-of-tap}
use Rattle.pb_world.proofs.Stepping.{in-err, stays-whole, turn-refused}
use Rattle.pb_world.proofs.Turns.{turn-follows, turn-kept, Grows}
use Rattle.pb_world.proofs.buses.Bus.turn.Goals as goal

pub returns-in_err-make_room-clause-follows : goal.returns-in_err-make_room-clause-follows
returns-in_err-make_room-clause-follows c =
    let bus = c.args.self.now in
    let w = world_of bus in
    let i = c.args.tap in
    let runs = c.in_ok-check_running.ensures.ok in
    let t = runs.0 in
    let at = ap (λ xs. slice_get xs i) (sym c.deref.ensures.value) ∙ runs.1 in
    let there = slice_get-map tap_of bus.taps.items i ∙ ap (option_map tap_of) at in
    let seat = seat-of-tap bus.params bus.taps.items i t c.requires.seats at in
    let turns = ap (λ p. turn_of p t.station.station t.marks bus.now) (ap (λ y. y.params) seat) in
    let reason = c.in_err-make_room.field-0.0 in
    in-err _ _ c.from_residual-in_err-make_room.result reason c.from_residual-in_err-make_room.ensures.0 c.from_residual-in_err-make_room.ensures.1 (
      stays-whole w bus.trace c.make_room.new.trace c.in_err-make_room.ensures.same,
      turn-refused w i (tap_of t) (turn_of t.station.params t.station.station t.marks bus.now).0 (says t bus.now) reason there runs.2 turns
          (c.in_err-make_room.ensures.fault t (ap (λ xs. slice_get xs i) c.deref-2.ensures.value ∙ at)),
    )

pub take_turn-requires-clause-place : goal.take_turn-requires-clause-place
take_turn-requires-clause-place c =
    let runs = c.in_ok-check_running.ensures.ok in
    slice_get_within c.deref_mut.result.now c.args.tap runs.0 (ap (λ xs. slice_get xs c.args.tap) (c.deref_mut.ensures.value ∙ sym c.deref.ensures.value) ∙ runs.1)

-- the tap that ran, what its turn did to the taps, and what became of the trace
runs : (c : goal.After-say) → Runs c.args.self.now.taps.items c.args.tap
runs c =
    let (t, at, up) = c.in_ok-check_running.ensures.ok in
    (t, ap (λ xs. slice_get xs c.args.tap) (sym c.deref.ensures.value) ∙ at, up)

takes : (c : goal.After-say) → TakesTurn c.args.self.now.taps.items c.args.tap c.args.self.now.now c.take_turn.new.taps c.take_turn.new.out
takes c = subst (λ ts. TakesTurn ts c.args.tap c.args.self.now.now c.take_turn.new.taps c.take_turn.new.out) c.deref_mut.ensures.value c.take_turn.ensures

back : (c : goal.After-say) → (with_items c.args.self.now.taps c.take_turn.new.taps).items ≡ c.take_turn.new.taps
back c =
    let bus = c.args.self.now in
    written-back bus.taps.len bus.taps.items c.take_turn.new.taps (ap length (sym c.deref_mut.ensures.value) ∙ c.deref_mut.ensures.len)
    (ap length (takes c).2 ∙ length-set bus.taps.items c.args.tap (turned_tap (takes c).0 bus.now))

grows : (c : goal.After-say) → Grows c.args.self.now c.args.tap c.take_turn.new.out c.make_room.new.trace c.say.new.self
grows c =
    let bus = c.args.self.now in
    let at = ap (λ xs. slice_get xs c.args.tap) c.deref-2.ensures.value ∙ (takes c).1 in
    let size : length (world_of bus).taps ≡ c.len.result = omega (arith, length-map bus.taps.items tap_of, c.len.ensures, ap length c.deref.ensures.value, c.deref.ensures.len) in
    record {
      same = c.in_ok-make_room.ensures.same;
      room = λ speaks. c.in_ok-make_room.ensures.ok (takes c).0 at (ap is_some (sym (takes c).3) ∙ speaks);
      becomes = c.say.ensures (world_of bus).taps size;
    }

pub returns-clause-follows : goal.returns-clause-follows
returns-clause-follows c =
    turn-follows c.args.self.now c.args.tap c.take_turn.new.taps _ c.take_turn.new.out c.make_room.new.trace c.say.new.self c.requires (runs c) (takes c) (back c) (grows c)

pub returns-clause-kept : goal.returns-clause-kept
returns-clause-kept c =
    turn-kept c.args.self.now c.args.tap c.take_turn.new.taps _ c.take_turn.new.out c.make_room.new.trace c.say.new.self c.take_turn.new.out c.args.self.now.spares c.requires (runs c) (takes c) (back c) (grows c)
