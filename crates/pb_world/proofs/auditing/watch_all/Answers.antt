use Rattle.std.proofs.Common.{sym, subst, map}
use Rattle.std.specs.Prelude.{take}
use Rattle.pb_taps.specs.Events.{event_of}
use Rattle.pb_taps.proofs.Items.{passed-at}
use Rattle.pb_world.specs.Watched.{HasCome, world_in}
use Rattle.pb_world.proofs.Coming.{watched-followed}
use Rattle.pb_world.proofs.auditing.watch_all.Goals as goal

pub follow-requires : goal.follow-requires
follow-requires c = watched-followed c.loop-place.watched c.loop-place.invariant.watched

pub loop-place-preserved : goal.loop-place-preserved
loop-place-preserved c =
    let start = world_in c.args.watched.now in
    let i = c.loop-place.place in
    let passed = passed-at event_of c.args.events.now i c.index-events-place.result c.loop-place-test.true c.index-events-place.is in
    subst (HasCome c.follow.new.self start) (sym passed) (c.in-Ok.ensures.came start (take i (map event_of c.args.events.now)) c.loop-place.invariant)
