use Rattle.pb_world.proofs.Driving.{ran-of}
use Rattle.pb_world.proofs.driven.DrivenBus.run.Goals as goal

pub invariant_of-self : goal.invariant_of-self
invariant_of-self c =
    let old = c.self.inside.driven in
    ran-of old.watched c.run_to.new.watched old.judge c.args.until c.run_to.result c.run_to.ensures.run c.run_to.ensures.fault c.self.invariant
