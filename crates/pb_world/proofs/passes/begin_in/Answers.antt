use Rattle.std.proofs.Common.{arith, sym, subst, map, ◌≤◌}
use Rattle.std.specs.Prelude.{IfSome}
use Rattle.pb_timers.specs.Timers.{last_moment}
use Rattle.law_model.specs.Medium.{sensed}
use Rattle.pb_medium.specs.Entries.{entry_of}
use Rattle.pb_medium.specs.Senses.{begin_between}
use Rattle.pb_world.proofs.Passing.{begin-by, some-by}
use Rattle.pb_world.proofs.passes.begin_in.Goals as goal

pub moment_of-requires : goal.moment_of-requires
moment_of-requires c =
    let spans = sensed c.args.delay c.args.position c.args.tap.now.since (map entry_of c.args.entries.now) in
    subst (λ o. IfSome o (λ n. n ≤ last_moment)) (sym c.begin_between.ensures)
    (some-by c.get-2.result last_moment (begin_between spans c.get.result c.get-2.result) (omega (arith, c.get-2.ensures.value, c.get-2.ensures.bound)) (begin-by c.get.result c.get-2.result spans))
