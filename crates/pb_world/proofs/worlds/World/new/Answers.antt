use Rattle.std.proofs.Common.{map}
use Rattle.law_model.specs.World.{trace_limit}
use Rattle.pb_world.specs.Buses.{world_of}
use Rattle.pb_taps.specs.Taps.{spec_of}
use Rattle.law_live.proofs.Promising.{new_begins}
use Rattle.pb_world.proofs.Lasting.{limit-within}
use Rattle.pb_world.proofs.worlds.World.new.Goals as goal

pub returns-clause-lead : goal.returns-clause-lead
returns-clause-lead c =
    (new_begins c.args.params (map spec_of c.args.specs.now) (world_of c.in_ok-bus.bus) c.in_ok-bus.ensures.valid c.in_ok-bus.ensures.fit (trace_limit, c.in_ok-bus.ensures.ok)).0

pub returns-clause-promises : goal.returns-clause-promises
returns-clause-promises c =
    (new_begins c.args.params (map spec_of c.args.specs.now) (world_of c.in_ok-bus.bus) c.in_ok-bus.ensures.valid c.in_ok-bus.ensures.fit (trace_limit, c.in_ok-bus.ensures.ok)).1

pub returns-clause-limit : goal.returns-clause-limit
returns-clause-limit c = limit-within trace_limit c.args.params (map spec_of c.args.specs.now) (world_of c.in_ok-bus.bus) c.in_ok-bus.ensures.ok
