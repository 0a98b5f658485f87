-- To a new bus no actions have led, and its judge has heard nothing.
use Rattle.std.proofs.Common.{[], map}
use Rattle.pb_taps.specs.Taps.{spec_of}
use Rattle.pb_world.specs.Watched.{world_in}
use Rattle.pb_world.proofs.Driving.{new-by}
use Rattle.pb_world.proofs.driven.DrivenBus.new_within.Goals as goal

pub invariant_of-result : goal.invariant_of-result
invariant_of-result c =
    let watched = c.in_ok-watched.watched in
    let made = c.in_ok-watched.ensures in
    ([], world_in watched, [], new-by c.args.limit c.args.params (map spec_of c.args.specs.now) watched c.in-Ok.judge made.valid made.fit made.new made.followed made.at_end c.in-Ok.ensures)

pub returns-in-Ok-clause-came : goal.returns-in-Ok-clause-came
returns-in-Ok-clause-came c =
    let watched = c.in_ok-watched.watched in
    let made = c.in_ok-watched.ensures in
    new-by c.args.limit c.args.params (map spec_of c.args.specs.now) watched c.in-Ok.judge made.valid made.fit made.new made.followed made.at_end c.in-Ok.ensures
