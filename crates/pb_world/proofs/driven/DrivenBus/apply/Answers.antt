use Rattle.pb_taps.specs.Events.{event_of}
use Rattle.pb_world.proofs.Driving.{applied-of}
use Rattle.pb_world.proofs.driven.DrivenBus.apply.Goals as goal

pub invariant_of-self : goal.invariant_of-self
invariant_of-self c =
    let old = c.self.inside.driven in
    applied-of old.watched c.apply.new.watched old.judge (event_of c.args.event.now) c.apply.result c.apply.ensures.applies c.self.invariant
