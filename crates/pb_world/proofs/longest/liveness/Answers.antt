use Rattle.std.proofs.Common.{map}
use Rattle.law_model.specs.World.{trace_limit}
use Rattle.pb_world.specs.Buses.{world_of}
use Rattle.law_live.proofs.Promising.{new_begins}
use Rattle.pb_taps.specs.Events.{event_of}
use Rattle.pb_taps.specs.Taps.{spec_of}
use Rattle.pb_world.proofs.Measuring.{begins-none, bounded-all}
use Rattle.pb_world.proofs.longest.liveness.Goals as goal

pub follow_all-requires : goal.follow_all-requires
follow_all-requires c =
    let bus = c.in-Ok.bus in
    let made = c.in-Ok.ensures in
    let lead = new_begins c.args.params (map spec_of c.args.specs.now) (world_of bus) made.valid made.fit (trace_limit, made.ok) in
    begins-none c.none-stretches.result bus made.kept lead.0 made.blank.start c.none-stretches.ensures.calm c.none-stretches.ensures.none

pub returns-in-Ok-follow_all-clause-bounds : goal.returns-in-Ok-follow_all-clause-bounds
returns-in-Ok-follow_all-clause-bounds c =
    let are = c.in-Ok-follow_all.ensures.ok in
    bounded-all c.args.params (map spec_of c.args.specs.now) (map event_of c.args.events.now) (world_of c.in-Ok.bus) (world_of c.follow_all.new.bus) _ c.in-Ok.ensures.ok are.lead are.longest
