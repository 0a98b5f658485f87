use Rattle.std.proofs.Common.{◌∙◌, sym, arith, length, ◌<◌, ◌+◌}
use Rattle.std.proofs.lemmas.List.{length-map}
use Rattle.pb_world.specs.Buses.{world_of}
use Rattle.pb_world.specs.Worlds.{due_at}
use Rattle.pb_taps.specs.Taps.{tap_of}
use Rattle.pb_world.proofs.Premising.{late-here, late-later, past-overdue}
use Rattle.pb_world.proofs.premises.is_any_late.Goals as goal

pub returns-then-is_overdue : goal.returns-then-is_overdue
returns-then-is_overdue c =
    let bus = c.args.bus.now in
    let w = world_of bus in
    let moment = bus.now + c.args.bits in
    let there : c.loop-tap.tap < length w.taps = omega (arith, c.loop-tap-test.true, c.len-tap-end.ensures, length-map bus.taps.items tap_of) in
    let late = c.if-is_overdue.ensures ∙ past-overdue w.params.lag moment (due_at w c.loop-tap.tap) in
    sym (late-here w moment c.loop-tap.tap there (sym late) c.loop-tap.invariant)

pub loop-tap-preserved : goal.loop-tap-preserved
loop-tap-preserved c =
    let bus = c.args.bus.now in
    let w = world_of bus in
    let moment = bus.now + c.args.bits in
    let there : c.loop-tap.tap < length w.taps = omega (arith, c.loop-tap-test.true, c.len-tap-end.ensures, length-map bus.taps.items tap_of) in
    let late = c.if-is_overdue.ensures ∙ past-overdue w.params.lag moment (due_at w c.loop-tap.tap) in
    late-later w moment c.loop-tap.tap there (sym late) c.loop-tap.invariant
