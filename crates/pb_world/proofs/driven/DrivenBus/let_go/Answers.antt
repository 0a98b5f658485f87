use Rattle.pb_world.proofs.Driving.{let-go-of}
use Rattle.pb_world.proofs.driven.DrivenBus.let_go.Goals as goal

pub invariant_of-self : goal.invariant_of-self
invariant_of-self c =
    let old = c.self.inside.driven in
    let-go-of old c.let_go.new.driven c.let_go.result c.let_go.ensures.gone c.let_go.ensures.fault c.self.invariant
