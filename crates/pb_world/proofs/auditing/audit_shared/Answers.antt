use Rattle.std.proofs.Common.{map}
use Rattle.pb_world.specs.Worlds.{lent_event}
use Rattle.pb_taps.specs.Taps.{spec_of}
use Rattle.pb_world.specs.Watched.{world_in}
use Rattle.pb_world.proofs.auditing.audit_shared.Goals as goal

pub judge-requires : goal.judge-requires
judge-requires c =
    (c.args.params, map spec_of c.args.specs.now, world_in c.in-Ok.watched, map lent_event c.args.events.now, c.in-Ok.ensures.new, c.in-Ok-watch_shared.ensures.ok)

pub returns-in-Ok-watch_shared-clause-ok : goal.returns-in-Ok-watch_shared-clause-ok
returns-in-Ok-watch_shared-clause-ok c =
    (c.judge.ensures c.args.params (map spec_of c.args.specs.now) (world_in c.in-Ok.watched) (map lent_event c.args.events.now) c.in-Ok.ensures.new c.in-Ok-watch_shared.ensures.ok).0

pub returns-in-Ok-watch_shared-clause-legal : goal.returns-in-Ok-watch_shared-clause-legal
returns-in-Ok-watch_shared-clause-legal c =
    (c.judge.ensures c.args.params (map spec_of c.args.specs.now) (world_in c.in-Ok.watched) (map lent_event c.args.events.now) c.in-Ok.ensures.new c.in-Ok-watch_shared.ensures.ok).1
