use Rattle.std.proofs.Common.{◌≡◌, ◌∙◌, ap, sym, subst, refl, length, arith}
use Rattle.std.specs.Prelude.{is_some, slice_get}
use Rattle.std.specs.Vec.{with_items}
use Rattle.std.proofs.lemmas.List.{length-map, length-set}
use Rattle.law_turn.specs.Turns.{turn_of}
use Rattle.pb_medium.specs.Speaking.{RefusesSaid}
use Rattle.pb_medium.specs.Traces.{entries_of, limit_of, RecentBecomes}
use Rattle.law_model.specs.Step.{with_said}
use Rattle.pb_station.specs.Decisions.{DecisionView, IsDecision}
use Rattle.pb_taps.specs.Glancing.{FitsTap}
use Rattle.pb_world.proofs.Judging.{tap-at, turn-stopped}
use Rattle.pb_world.proofs.Showing.{fits}
use Rattle.pb_world.specs.Buses.{world_of}
use Rattle.pb_taps.specs.Taps.{tap_of}
use Rattle.pb_taps.specs.Turning.{says, turned_tap, Runs, RefusesStopped, TakesTurn}
use Rattle.pb_taps.proofs.Behind.{written-back}
use Rattle.pb_taps.proofs.Seats.{seat-of-tap}
use Rattle.pb_world.proofs.Stepping.{in-err, stays-whole, turn-refused}
use Rattle.pb_world.proofs.Turns.{decided-says, turn-follows, turn-kept, Grows}
use Rattle.pb_world.proofs.buses.Bus.take.Goals as goal

pub returns-in_err-check_running-clause-follows : goal.returns-in_err-check_running-clause-follows
returns-in_err-check_running-clause-follows c =
    let bus = c.args.self.now in
    let w = world_of bus in
    let i = c.args.decided.tap in
    let reason = c.in_err-check_running.field-0.0 in
    let why = subst (λ ts. RefusesStopped ts i reason) c.deref.ensures.value
    (subst (λ (x : DecisionView). RefusesStopped c.deref.result.now x.tap reason) c.decided.view_is c.in_err-check_running.ensures.fault) in
    in-err _ _ c.from_residual.result reason c.from_residual.ensures.0 c.from_residual.ensures.1 (refl, turn-stopped bus i reason why)

pub returns-in_err-make_room_for-clause-follows : goal.returns-in_err-make_room_for-clause-follows
returns-in_err-make_room_for-clause-follows c =
    let bus = c.args.self.now in
    let w = world_of bus in
    let d = c.args.decided in
    let runs = c.in_ok-check_running.ensures.ok in
    let t = runs.0 in
    let at = ap (λ xs. slice_get xs d.tap) (sym c.deref.ensures.value) ∙ ap (λ x. slice_get c.deref.result.now x.tap) (sym c.decided.view_is) ∙ runs.1 in
    let seat = seat-of-tap bus.params bus.taps.items d.tap t c.requires.kept.seats at in
    let turns = ap (λ p. turn_of p t.station.station t.marks bus.now) (ap (λ y. y.params) seat) in
    let fit = (fits bus d c.requires.kept).1 c.requires.fits in
    let said = decided-says bus.taps.items bus.now d t fit (subst IsDecision c.decided.view_is c.decided.invariant) at in
    let reason = c.in_err-make_room_for.field-0.0 in
    in-err _ _ c.from_residual-in_err-make_room_for.result reason c.from_residual-in_err-make_room_for.ensures.0 c.from_residual-in_err-make_room_for.ensures.1 (
      stays-whole w bus.trace c.make_room_for.new.trace c.in_err-make_room_for.ensures.same,
      turn-refused w d.tap (tap_of t) (turn_of t.station.params t.station.station t.marks bus.now).0 (says t bus.now) reason (tap-at bus d.tap t at) runs.2 turns
          (subst (λ o. RefusesSaid o (limit_of bus.trace) (length (entries_of bus.trace)) reason) said c.in_err-make_room_for.ensures.fault),
    )

pub take_decided-replaced-requires : goal.take_decided-replaced-requires
take_decided-replaced-requires c =
    let bus = c.args.self.now in
    subst (λ ts. FitsTap ts bus.now c.args.decided) (sym c.deref_mut.ensures.value) ((fits bus c.args.decided c.requires.kept).1 c.requires.fits)

pub say-requires-clause-room : goal.say-requires-clause-room
say-requires-clause-room c speaks =
    let bus = c.args.self.now in
    let d = c.args.decided in
    let (t, at, are, said) = subst (λ ts. TakesTurn ts d.tap bus.now c.take_decided-replaced.new.taps c.take_decided-replaced.new.out) c.deref_mut.ensures.value c.take_decided-replaced.ensures.turn in
    let fit = (fits bus d c.requires.kept).1 c.requires.fits in
    let says = decided-says bus.taps.items bus.now d t fit (subst IsDecision c.decided.view_is c.decided.invariant) at in
    c.in_ok-make_room_for.ensures.ok (ap is_some (says ∙ sym said) ∙ speaks)

-- the tap that ran, what its turn did to the taps, and what became of the trace
runs : (c : goal.After-keep) → Runs c.args.self.now.taps.items c.args.decided.tap
runs c =
    let (t, at, up) = c.in_ok-check_running.ensures.ok in
    (t, ap (λ xs. slice_get xs c.args.decided.tap) (sym c.deref.ensures.value) ∙ ap (λ x. slice_get c.deref.result.now x.tap) (sym c.decided.view_is) ∙ at, up)

takes : (c : goal.After-keep) → TakesTurn c.args.self.now.taps.items c.args.decided.tap c.args.self.now.now c.take_decided-replaced.new.taps c.take_decided-replaced.new.out
takes c = subst (λ ts. TakesTurn ts c.args.decided.tap c.args.self.now.now c.take_decided-replaced.new.taps c.take_decided-replaced.new.out) c.deref_mut.ensures.value c.take_decided-replaced.ensures.turn

back : (c : goal.After-keep) → (with_items c.args.self.now.taps c.take_decided-replaced.new.taps).items ≡ c.take_decided-replaced.new.taps
back c =
    let bus = c.args.self.now in
    written-back bus.taps.len bus.taps.items c.take_decided-replaced.new.taps (ap length (sym c.deref_mut.ensures.value) ∙ c.deref_mut.ensures.len)
    (ap length (takes c).2 ∙ length-set bus.taps.items c.args.decided.tap (turned_tap (takes c).0 bus.now))

grows : (c : goal.After-keep) → Grows c.args.self.now c.args.decided.tap c.take_decided-replaced.new.out c.make_room_for.new.trace c.say.new.self
grows c =
    let bus = c.args.self.now in
    let d = c.args.decided in
    let fit = (fits bus d c.requires.kept).1 c.requires.fits in
    let says = decided-says bus.taps.items bus.now d (takes c).0 fit (subst IsDecision c.decided.view_is c.decided.invariant) (takes c).1 in
    let size : length (world_of bus).taps ≡ c.len.result = omega (arith, length-map bus.taps.items tap_of, c.len.ensures, ap length c.deref.ensures.value, c.deref.ensures.len) in
    record {
      same = c.in_ok-make_room_for.ensures.same;
      room = λ speaks. c.in_ok-make_room_for.ensures.ok (ap is_some (says ∙ sym (takes c).3) ∙ speaks);
      becomes = subst (λ (x : DecisionView). RecentBecomes (with_said x.tap c.take_decided-replaced.new.out bus.now (world_of bus).taps) c.make_room_for.new.trace c.say.new.self) c.decided.view_is (c.say.ensures (world_of bus).taps size);
    }

pub returns-clause-follows : goal.returns-clause-follows
returns-clause-follows c =
    turn-follows c.args.self.now c.args.decided.tap c.take_decided-replaced.new.taps _ c.take_decided-replaced.new.out c.make_room_for.new.trace c.say.new.self c.requires.kept (runs c) (takes c) (back c) (grows c)

pub returns-clause-kept : goal.returns-clause-kept
returns-clause-kept c =
    turn-kept c.args.self.now c.args.decided.tap c.take_decided-replaced.new.taps _ c.take_decided-replaced.new.out c.make_room_for.new.trace c.say.new.self c.take_decided-replaced.new.out c.keep.new.self c.requires.kept (runs c) (takes c) (back c) (grows c)
