use Rattle.std.proofs.Common.{◌∙◌, ap, ◌&&◌, ◌-◌, nat_le, ℕ}
use Rattle.pb_timers.specs.Timers.{tto}
use Rattle.pb_world.specs.Buses.{world_with}
use Rattle.pb_taps.specs.Taps.{tap_of}
use Rattle.pb_world.proofs.Premising.{waited-is}
use Rattle.pb_world.proofs.premises.has_waited.Goals as goal

pub returns : goal.returns
returns c = λ old silent.
    let w = world_with old c.args.bus.now in
    let t = tap_of c.args.tap.now in
    let timeout = c.tto-timeout.result in
    let is = c.tto-timeout.ensures.value ∙ ap (λ (n : ℕ). tto w.params n) c.address.ensures.value in
    c.has_waited_since.ensures
    ∙ ap (λ (n : ℕ). t.running && t.spec.master && nat_le timeout (n - t.since) && nat_le timeout (n - c.args.quiet)) c.get.ensures.value
    ∙ waited-is w c.args.position t c.args.quiet timeout c.tto-timeout.ensures.valid is silent
