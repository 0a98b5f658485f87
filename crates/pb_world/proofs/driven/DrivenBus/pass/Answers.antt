use Rattle.law_model.specs.World.{Pass}
use Rattle.pb_world.proofs.Driving.{applied-of}
use Rattle.pb_world.proofs.driven.DrivenBus.pass.Goals as goal

pub invariant_of-self : goal.invariant_of-self
invariant_of-self c =
    let old = c.self.inside.driven in
    applied-of old.watched c.pass.new.watched old.judge (Pass c.args.bits) c.pass.result c.pass.ensures.applies c.self.invariant
