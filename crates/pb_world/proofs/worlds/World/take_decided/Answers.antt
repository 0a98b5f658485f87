use Rattle.std.proofs.Common.{subst, refl, [], ◌∷◌}
use Rattle.law_model.specs.World.{Reply, Turn}
use Rattle.pb_world.specs.Buses.{world_of}
use Rattle.law_live.specs.Promises.{LeadOn}
use Rattle.law_live.proofs.Promising.{run_leads_on}
use Rattle.pb_world.proofs.worlds.World.take_decided.Goals as goal

pub returns-clause-promises : goal.returns-clause-promises
returns-clause-promises c =
    let event = Turn c.args.decided.tap in
    let next = world_of c.take.new.self in
    let reply : Reply = record { now = next.now; spoke = c.take.new.self.sent } in
    subst (λ w. LeadOn w (event ∷ []) next) c.self.view_is
    (run_leads_on (world_of c.self.inside.bus) next (event ∷ []) (tt, tt) (next, reply, c.in_ok-take.ensures.follows, refl))
