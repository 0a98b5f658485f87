use Rattle.std.proofs.Common.{map}
use Rattle.pb_medium.specs.Entries.{entry_of}
use Rattle.pb_world.proofs.Tracing.{in-order}
use Rattle.pb_world.proofs.traces.first_illegal.Goals as goal

pub first_illegal-requires : goal.first_illegal-requires
first_illegal-requires c = in-order (map entry_of c.args.trace.now) c.in_ok-check_order.ensures.ok
