use Rattle.std.proofs.Common.{subst}
use Rattle.pb_taps.specs.Events.{event_of}
use Rattle.pb_world.specs.Buses.{world_of}
use Rattle.pb_world.specs.Worlds.{Goes}
use Rattle.pb_world.proofs.Running.{goes}
use Rattle.pb_world.proofs.worlds.World.does.Goals as goal

pub returns-clause-goes : goal.returns-clause-goes
returns-clause-goes c =
    let event = event_of c.args.event.now in
    let next = world_of c.apply.new.self in
    subst (λ w. Goes w event c.apply.result next) c.self.view_is
    (goes (world_of c.self.inside.bus) event c.apply.result c.apply.new.self.sent next c.apply.ensures.follows)
