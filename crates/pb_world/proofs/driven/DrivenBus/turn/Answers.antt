use Rattle.law_model.specs.World.{Turn}
use Rattle.pb_world.proofs.Driving.{applied-of}
use Rattle.pb_world.proofs.driven.DrivenBus.turn.Goals as goal

pub invariant_of-self : goal.invariant_of-self
invariant_of-self c =
    let old = c.self.inside.driven in
    applied-of old.watched c.turn.new.watched old.judge (Turn c.args.tap) c.turn.result c.turn.ensures.applies c.self.invariant
