use Rattle.pb_world.proofs.Driving.{stays-of}
use Rattle.pb_world.proofs.driven.DrivenBus.keep_indications.Goals as goal

pub invariant_of-self : goal.invariant_of-self
invariant_of-self c =
    let old = c.self.inside.driven in
    stays-of old.watched c.keep_indications.new.watched old.judge c.keep_indications.ensures.same c.self.invariant
