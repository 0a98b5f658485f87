use Rattle.std.proofs.Common.{ap, sym, refl, arith}
use Rattle.std.specs.Prelude.{slice_get}
use Rattle.law_model.specs.World.{Unheard}
use Rattle.pb_medium.specs.Traces.{over_of}
use Rattle.pb_taps.specs.declared.faults.WorldFault.TheVariants as fault
use Rattle.pb_world.specs.Buses.{world_of}
use Rattle.pb_world.specs.Refusals.{fault_of}
use Rattle.pb_world.proofs.Judging.{refused, both-taps}
use Rattle.pb_world.proofs.Stepping.{unheard-done, unheard-refused}
use Rattle.pb_world.proofs.buses.Bus.check_unheard.Goals as goal

pub returns-then-has_nothing_to_lose : goal.returns-then-has_nothing_to_lose
returns-then-has_nothing_to_lose c =
    let bus = c.args.self.now in
    let w = world_of bus in
    let there = both-taps bus c.args.tap c.args.speaker (omega (arith, c.len.ensures, c.if-tap-len.false)) (omega (arith, c.len-else-tap-len.ensures, c.if-speaker-len.false)) in
    refused w (Unheard c.args.tap c.args.speaker) _ fault.NothingInAir refl
    (unheard-refused w (over_of bus.trace) c.args.tap c.args.speaker (slice_get w.taps c.args.tap) (slice_get w.taps c.args.speaker) fault.NothingInAir c.requires.kept.cut there
    (sym c.if-has_nothing_to_lose.ensures) refl)

pub returns : goal.returns
returns c =
    let bus = c.args.self.now in
    let w = world_of bus in
    let there = both-taps bus c.args.tap c.args.speaker (omega (arith, c.len.ensures, c.if-tap-len.false)) (omega (arith, c.len-else-tap-len.ensures, c.if-speaker-len.false)) in
    ap fault_of (unheard-done w (over_of bus.trace) c.args.tap c.args.speaker (slice_get w.taps c.args.tap) (slice_get w.taps c.args.speaker) c.requires.kept.cut there
    (sym c.if-has_nothing_to_lose.ensures))
