use Rattle.std.proofs.Common.{map}
use Rattle.pb_taps.specs.Events.{event_of}
use Rattle.pb_taps.specs.Taps.{spec_of}
use Rattle.pb_world.specs.Watched.{world_in}
use Rattle.pb_world.proofs.auditing.audit.Goals as goal

pub judge-requires : goal.judge-requires
judge-requires c =
    (c.args.params, map spec_of c.args.specs.now, world_in c.in-Ok.watched, map event_of c.args.events.now, c.in-Ok.ensures.new, c.in-Ok-watch_all.ensures.ok)

pub returns-in-Ok-watch_all-clause-ok : goal.returns-in-Ok-watch_all-clause-ok
returns-in-Ok-watch_all-clause-ok c =
    (c.judge.ensures c.args.params (map spec_of c.args.specs.now) (world_in c.in-Ok.watched) (map event_of c.args.events.now) c.in-Ok.ensures.new c.in-Ok-watch_all.ensures.ok).0

pub returns-in-Ok-watch_all-clause-legal : goal.returns-in-Ok-watch_all-clause-legal
returns-in-Ok-watch_all-clause-legal c =
    (c.judge.ensures c.args.params (map spec_of c.args.specs.now) (world_in c.in-Ok.watched) (map event_of c.args.events.now) c.in-Ok.ensures.new c.in-Ok-watch_all.ensures.ok).1
