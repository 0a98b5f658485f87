use Rattle.pb_medium.proofs.Lending.{lent-as}
use Rattle.pb_medium.proofs.traces.Trace.recent.Goals as goal

pub returns : goal.returns
returns c = lent-as c.args.self.now c.deref.result.now c.deref.ensures.value
