use Rattle.pb_world.proofs.Driving.{set-of}
use Rattle.pb_world.proofs.driven.DrivenBus.set_reply.Goals as goal

pub invariant_of-self : goal.invariant_of-self
invariant_of-self c =
    let old = c.self.inside.driven in
    set-of old.watched c.set_reply.new.watched old.judge c.args.tap c.args.reply.items c.set_reply.result c.set_reply.ensures.sets c.self.invariant
