use Rattle.std.proofs.Common.{◌≡◌, Ok}
use Rattle.law_model.specs.World.{new_world}
use Rattle.pb_fleet.proofs.Telling.{begins_so}
use Rattle.pb_fleet.proofs.fleets.run_fleet.Goals as goal

pub fleet-requires-clause-new : goal.fleet-requires-clause-new
fleet-requires-clause-new g c κs within = (c.in-Ok.ensures.lead, c.in-Ok.ensures.limit)

pub fleet-requires-clause-origin : goal.fleet-requires-clause-origin
fleet-requires-clause-origin g c κs within =
    let s = c.args.scenario.now.scenario in
    let made : new_world s.params s.taps ≡ Ok c.in-Ok.world = rw (c.params.ensures, c.taps.ensures.specs) at c.in-Ok.ensures.ok in
    begins_so s c.in-Ok.world made
