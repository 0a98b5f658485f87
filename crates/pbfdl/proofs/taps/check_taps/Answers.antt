use Rattle.std.proofs.Common.{rules, arith, true, false}
use Rattle.pbfdl.proofs.MakingBuses.{tap-fault-few}
use Rattle.pbfdl.proofs.taps.check_taps.Goals as goal

pub returns-then-has_bad_station : goal.returns-then-has_bad_station
returns-then-has_bad_station c =
    (λ zero. cc, tap-fault-few c.args.params.now c.args.taps.now true (search (rules, arith)) (search (rules, arith)) (search rules))

pub returns : goal.returns
returns c = tap-fault-few c.args.params.now c.args.taps.now false (search (rules, arith)) (search (rules, arith)) (search rules)
