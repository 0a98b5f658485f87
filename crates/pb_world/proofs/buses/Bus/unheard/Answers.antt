use Rattle.std.proofs.Common.{◌∙◌, ap, sym, ◌++◌, ◌<◌, length, arith, Ok}
use Rattle.std.specs.Prelude.{slice_get, is_none, take, drop}
use Rattle.std.proofs.lemmas.List.{length-map}
use Rattle.law_model.specs.Trace.{begins_from, unheard_at}
use Rattle.law_model.specs.World.{Unheard}
use Rattle.pb_world.specs.Buses.{world_of}
use Rattle.pb_medium.specs.Losing.{lost}
use Rattle.pb_medium.specs.Traces.{entries_of, limit_of, over_of, recent_of}
use Rattle.pb_taps.specs.Taps.{tap_of}
use Rattle.pb_world.proofs.Ending.{in-time}
use Rattle.pb_world.proofs.Stepping.{both-there, is-there, in-err, cut-after, from-changed, begin-unheard_at, sound-after, unheard-done, unheard-refused}
use Rattle.pb_world.proofs.buses.Bus.unheard.Goals as goal

pub returns-in_err-lose-clause-follows : goal.returns-in_err-lose-clause-follows
returns-in_err-lose-clause-follows c =
    let bus = c.args.self.now in
    let w = world_of bus in
    let at = slice_get w.taps c.args.tap in
    let from = slice_get w.taps c.args.speaker in
    let taps = length-map bus.taps.items tap_of in
    let one : c.args.tap < length w.taps = omega (arith, taps, c.if-tap-len.false) in
    let two : c.args.speaker < length w.taps = omega (arith, taps, c.if-speaker-len.false) in
    let there = both-there (is_none at) (is_none from) (is-there w.taps c.args.tap one) (is-there w.taps c.args.speaker two) in
    let reason = c.in_err-lose.field-0.0 in
    in-err _ _ c.from_residual.result reason c.from_residual.ensures.0 c.from_residual.ensures.1 (
      ap (λ t. record w { trace = entries_of t; limit = limit_of t }) c.in_err-lose.ensures.err,
      unheard-refused w (over_of bus.trace) c.args.tap c.args.speaker at from reason c.requires.cut there c.in_err-lose.ensures.nothing c.in_err-lose.ensures.fault,
    )

pub returns-clause-follows : goal.returns-clause-follows
returns-clause-follows c =
    let bus = c.args.self.now in
    let w = world_of bus in
    let over = over_of bus.trace in
    let at = slice_get w.taps c.args.tap in
    let from = slice_get w.taps c.args.speaker in
    let taps = length-map bus.taps.items tap_of in
    let one : c.args.tap < length w.taps = omega (arith, taps, c.if-tap-len.false) in
    let two : c.args.speaker < length w.taps = omega (arith, taps, c.if-speaker-len.false) in
    let there = both-there (is_none at) (is_none from) (is-there w.taps c.args.tap one) (is-there w.taps c.args.speaker two) in
    unheard-done w over c.args.tap c.args.speaker at from c.requires.cut there c.in_ok-lose.ensures.found
    ∙ ap (λ o. Ok (record w { trace = take over w.trace ++ lost c.args.tap c.args.speaker bus.now (drop over w.trace) }, record { now = bus.now; spoke = o })) (sym c.clear.ensures)
    ∙ ap (λ es. Ok (record w { trace = es }, record { now = bus.now; spoke = c.clear.new.self })) (sym c.in_ok-lose.ensures.ok.entries)
    ∙ ap (λ l. Ok (record w { trace = entries_of c.lose.new.self; limit = l }, record { now = bus.now; spoke = c.clear.new.self })) (sym c.in_ok-lose.ensures.ok.limit)

pub returns-clause-kept : goal.returns-clause-kept
returns-clause-kept c =
    let bus = c.args.self.now in
    record {
      sound = sound-after (world_of bus) (Unheard c.args.tap c.args.speaker) _ _ (returns-clause-follows c) tt c.requires.sound;
      clock = c.requires.clock;
      room = c.requires.room;
      seats = c.requires.seats;
      cut = cut-after bus.params.ttd bus.now (lost c.args.tap c.args.speaker bus.now) bus.trace c.lose.new.self c.in_ok-lose.ensures.ok
          (λ m at from. from-changed bus.params.ttd m (begins_from bus.now c.args.speaker) (unheard_at c.args.tap) (recent_of bus.trace) (begin-unheard_at bus.params.ttd c.args.tap) from) c.requires.cut;
      ends = in-time (world_of bus) (Unheard c.args.tap c.args.speaker) _ _ (returns-clause-follows c) tt c.requires.clock c.requires.sound c.requires.ends;
    }
