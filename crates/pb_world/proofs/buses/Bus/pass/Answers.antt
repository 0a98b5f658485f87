use Rattle.std.proofs.Common.{◌∙◌, ap, sym, subst, length, map, Ok, arith}
use Rattle.std.specs.Prelude.{take}
use Rattle.std.specs.Vec.{with_items}
use Rattle.law_model.specs.Laws.{AllBegun}
use Rattle.law_model.specs.Step.{step_pass}
use Rattle.law_model.specs.World.{World, Pass}
use Rattle.pb_medium.specs.Airs.{IsCut}
use Rattle.pb_medium.specs.Traces.{entries_of, limit_of, over_of}
use Rattle.pb_world.specs.Buses.{world_of}
use Rattle.pb_world.specs.Clocks.{IsFault, PassesTo}
use Rattle.pb_taps.specs.Taps.{tap_of, seat_of, AreSeated}
use Rattle.pb_world.proofs.Airing.{air-recent}
use Rattle.pb_taps.proofs.Behind.{written-back}
use Rattle.pb_taps.proofs.Items.{as-many}
use Rattle.pb_world.proofs.Ending.{in-time}
use Rattle.pb_world.proofs.Stepping.{in-err, sound-after, pass-done, pass-refused, cut-passed}
use Rattle.pb_world.proofs.buses.Bus.pass.Goals as goal

pub returns-in_err-self-clause-follows : goal.returns-in_err-self-clause-follows
returns-in_err-self-clause-follows c =
    let bus = c.args.self.now in
    let w = world_of bus in
    let items = c.deref_mut.ensures.value in
    let back = written-back bus.taps.len bus.taps.items c.pass.new.taps (ap length (sym items) ∙ c.deref_mut.ensures.len) (as-many seat_of c.pass.new.taps c.deref_mut.result.now c.pass.ensures.seats ∙ ap length items) in
    let same = air-recent bus.params c.ttd.result bus.now (limit_of bus.trace) (over_of bus.trace) (entries_of bus.trace) bus.taps.items c.deref_mut.result.now c.ttd.ensures items in
    let reason = c.in_err-self.field-0.0 in
    in-err _ _ c.from_residual.result reason c.from_residual.ensures.0 c.from_residual.ensures.1 (
      ap (λ t. record w { trace = entries_of t; taps = map tap_of (with_items bus.taps c.pass.new.taps).items; limit = limit_of t }) c.in_err-self.ensures.err.0
          ∙ ap (λ ts. record w { taps = map tap_of ts }) (back ∙ c.in_err-self.ensures.err.1 ∙ items),
      pass-refused w (over_of bus.trace) c.args.bits reason c.requires.cut
          (subst (λ (x : World). IsFault (step_pass x c.args.bits) reason) same c.in_err-self.ensures.fault),
    )

pub returns-clause-follows : goal.returns-clause-follows
returns-clause-follows c =
    let bus = c.args.self.now in
    let w = world_of bus in
    let over = over_of bus.trace in
    let items = c.deref_mut.ensures.value in
    let back = written-back bus.taps.len bus.taps.items c.pass.new.taps (ap length (sym items) ∙ c.deref_mut.ensures.len) (as-many seat_of c.pass.new.taps c.deref_mut.result.now c.pass.ensures.seats ∙ ap length items) in
    let same = air-recent bus.params c.ttd.result bus.now (limit_of bus.trace) over w.trace bus.taps.items c.deref_mut.result.now c.ttd.ensures items in
    let to = c.in_ok-self.field-0 in
    let after = entries_of c.pass.new.trace in
    let taps = map tap_of c.pass.new.taps in
    let passes = subst (λ (x : World). PassesTo x c.args.bits (take over w.trace) to after taps) same c.in_ok-self.ensures.ok in
    pass-done w over c.args.bits to after taps c.requires.cut passes
    ∙ ap (λ o. Ok (record w { now = to; trace = after; taps = taps }, record { now = to; spoke = o })) (sym c.clear.ensures)
    ∙ ap (λ es. Ok (record w { now = to; trace = es; taps = taps }, record { now = to; spoke = c.clear.new.self })) (sym c.close.ensures.entries)
    ∙ ap (λ l. Ok (record w { now = to; trace = entries_of c.close.new.self; taps = taps; limit = l }, record { now = to; spoke = c.clear.new.self })) (sym (c.close.ensures.limit ∙ c.pass.ensures.limit))
    ∙ ap (λ ts. Ok (record w { now = to; trace = entries_of c.close.new.self; taps = map tap_of ts; limit = limit_of c.close.new.self }, record { now = to; spoke = c.clear.new.self })) (sym back)

pub returns-clause-kept : goal.returns-clause-kept
returns-clause-kept c =
    let bus = c.args.self.now in
    let w = world_of bus in
    let over = over_of bus.trace in
    let items = c.deref_mut.ensures.value in
    let seats = c.pass.ensures.seats in
    let back = written-back bus.taps.len bus.taps.items c.pass.new.taps (ap length (sym items) ∙ c.deref_mut.ensures.len) (as-many seat_of c.pass.new.taps c.deref_mut.result.now seats ∙ ap length items) in
    let same = air-recent bus.params c.ttd.result bus.now (limit_of bus.trace) over w.trace bus.taps.items c.deref_mut.result.now c.ttd.ensures items in
    let to = c.in_ok-self.field-0 in
    let after = entries_of c.pass.new.trace in
    let taps = map tap_of c.pass.new.taps in
    let passes = subst (λ (x : World). PassesTo x c.args.bits (take over w.trace) to after taps) same c.in_ok-self.ensures.ok in
    let sound = sound-after w (Pass c.args.bits) _ _ (returns-clause-follows c) tt c.requires.sound in
    record {
      sound = sound;
      clock = c.in_ok-self.ensures.clock.1;
      room = omega (arith, ap length back, as-many seat_of c.pass.new.taps c.deref_mut.result.now seats, ap length items, c.requires.room);
      seats = subst (AreSeated bus.params 0) (sym (ap (map seat_of) back ∙ seats ∙ ap (map seat_of) items)) c.requires.seats;
      cut = subst (λ d. IsCut d to (over_of c.close.new.self) (entries_of c.close.new.self)) c.ttd-2.ensures (c.close.ensures.cut bus.now c.in_ok-self.ensures.clock.0
          (subst (λ d. IsCut d bus.now (over_of c.pass.new.trace) after) (sym c.ttd-2.ensures) (subst (λ n. IsCut bus.params.ttd bus.now n after) (sym c.pass.ensures.over) (cut-passed w over c.args.bits to after taps c.requires.cut passes)))
          (subst (AllBegun to) c.close.ensures.entries sound.begun));
      ends = in-time w (Pass c.args.bits) _ _ (returns-clause-follows c) tt c.requires.clock c.requires.sound c.requires.ends;
    }
