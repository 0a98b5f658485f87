use Rattle.std.proofs.Common.{rules}
use Rattle.pb_transitions.proofs.hearing.data_heard.Goals as goal

pub returns : goal.returns
returns c queue = let h = c.data_told.ensures queue in search rules
