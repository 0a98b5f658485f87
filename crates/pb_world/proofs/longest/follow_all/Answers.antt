use Rattle.std.proofs.Common.{sym, subst, map}
use Rattle.std.specs.Prelude.{take}
use Rattle.pb_world.specs.Buses.{world_of}
use Rattle.pb_taps.specs.Events.{event_of}
use Rattle.pb_taps.proofs.Items.{passed-at}
use Rattle.pb_world.specs.Liveness.{AreStretches}
use Rattle.pb_world.proofs.longest.follow_all.Goals as goal

pub loop-place-preserved : goal.loop-place-preserved
loop-place-preserved c =
    let start = world_of c.args.bus.now in
    let i = c.loop-place.place in
    let passed = passed-at event_of c.args.events.now i c.index-events-place.result c.loop-place-test.true c.index-events-place.is in
    subst (AreStretches c.follow.new.stretches c.follow.new.bus start) (sym passed) (c.in_default.ensures.goes start (take i (map event_of c.args.events.now)) c.loop-place.invariant)
