use Rattle.std.proofs.Common.{◌∙◌, ap, sym, Ok, ◌+◌, ◌++◌, arith}
use Rattle.std.specs.Prelude.{drop, take}
use Rattle.law_model.specs.Step.{with_noise}
use Rattle.law_model.specs.World.{Noise}
use Rattle.pb_world.specs.Buses.{world_of}
use Rattle.pb_medium.specs.Noising.{has_noise}
use Rattle.pb_medium.specs.Traces.{entries_of, over_of, recent_of}
use Rattle.pb_world.proofs.Ending.{in-time}
use Rattle.pb_world.proofs.Stepping.{in-err, stays-whole, sound-after, cut-after, from-noise, noise-done, noise-refused}
use Rattle.pb_world.proofs.buses.Bus.noise.Goals as goal

pub returns-in_err-make_noise-clause-follows : goal.returns-in_err-make_noise-clause-follows
returns-in_err-make_noise-clause-follows c =
    let bus = c.args.self.now in
    let w = world_of bus in
    let reason = c.in_err-make_noise.field-0.0 in
    in-err _ _ c.from_residual.result reason c.from_residual.ensures.0 c.from_residual.ensures.1 (
      stays-whole w bus.trace c.make_noise.new.self c.in_err-make_noise.ensures.err,
      noise-refused w (over_of bus.trace) c.args.bits reason c.requires.cut c.in_err-make_noise.ensures.fault,
    )

pub returns-clause-follows : goal.returns-clause-follows
returns-clause-follows c =
    let bus = c.args.self.now in
    let w = world_of bus in
    let over = over_of bus.trace in
    let noisy = has_noise bus.now (recent_of bus.trace) in
    noise-done w over c.args.bits c.requires.cut c.in_ok-make_noise.ensures.some c.in_ok-make_noise.ensures.room
    ∙ ap (λ o. Ok (record w { trace = take over w.trace ++ with_noise bus.now (bus.now + c.args.bits) noisy (drop over w.trace) }, record { now = bus.now; spoke = o })) (sym c.clear.ensures)
    ∙ ap (λ es. Ok (record w { trace = es }, record { now = bus.now; spoke = c.clear.new.self })) (sym c.in_ok-make_noise.ensures.ok.entries)
    ∙ ap (λ l. Ok (record w { trace = entries_of c.make_noise.new.self; limit = l }, record { now = bus.now; spoke = c.clear.new.self })) (sym c.in_ok-make_noise.ensures.ok.limit)

pub returns-clause-kept : goal.returns-clause-kept
returns-clause-kept c =
    let bus = c.args.self.now in
    let recent = recent_of bus.trace in
    let end = bus.now + c.args.bits in
    let noisy = has_noise bus.now recent in
    record {
      sound = sound-after (world_of bus) (Noise c.args.bits) _ _ (returns-clause-follows c) tt c.requires.sound;
      clock = c.requires.clock;
      room = c.requires.room;
      seats = c.requires.seats;
      cut = cut-after bus.params.ttd bus.now (with_noise bus.now end noisy) bus.trace c.make_noise.new.self c.in_ok-make_noise.ensures.ok
          (λ m at from. from-noise bus.params.ttd m bus.now end noisy recent at from) c.requires.cut;
      ends = in-time (world_of bus) (Noise c.args.bits) _ _ (returns-clause-follows c) (omega arith) c.requires.clock c.requires.sound c.requires.ends;
    }
