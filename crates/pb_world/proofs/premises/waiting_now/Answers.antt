use Rattle.std.proofs.Common.{◌<◌, ◌-◌, ap, sym, arith, length}
use Rattle.std.proofs.lemmas.List.{length-map}
use Rattle.pb_timers.specs.Timers.{tto}
use Rattle.pb_taps.specs.Taps.{tap_of}
use Rattle.pb_world.specs.Premises.{IsOldest, waiting_of}
use Rattle.pb_world.specs.Buses.{world_with}
use Rattle.pb_world.proofs.Lasting.{none-waits}
use Rattle.pb_world.proofs.premises.waiting_now.Goals as goal

pub returns-then-saturating_sub-tto : goal.returns-then-saturating_sub-tto
returns-then-saturating_sub-tto c = λ past silent.
    let bus = c.args.bus.now in
    let w = world_with past bus in
    let old : IsOldest c.args.oldest (length w.taps) c.args.quiet.now = λ tap there. c.requires.oldest tap (omega (arith, there, length-map bus.taps.items tap_of)) in
    let short : w.now - c.args.oldest < tto w.params 0 = omega (arith, c.if-saturating_sub-tto.true, c.saturating_sub.ensures, c.get.ensures.value, c.tto.ensures.value) in
    sym (ap waiting_of (none-waits w c.args.quiet.now c.args.oldest c.tto.ensures.valid silent old short))
