-- No step is up to the moment.
use Rattle.pb_scenario.proofs.Cuts.{none-yet}
use Rattle.pb_scenario.proofs.advancing.advance.Goals as goal

pub returns-then-none_by : goal.returns-then-none_by
returns-then-none_by c = none-yet c.args.later.now c.args.at c.args.held.now (c.none_by.ensures c.if-none_by.true)
