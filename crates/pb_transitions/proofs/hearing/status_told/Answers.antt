use Rattle.std.proofs.Common.{rules}
use Rattle.pb_transitions.proofs.hearing.status_told.Goals as goal

pub returns-in-Some : goal.returns-in-Some
returns-in-Some c queue = let h = c.status_replied.ensures queue in search rules

pub returns-in-None : goal.returns-in-None
returns-in-None c queue = let h = c.not_replied.ensures queue in search rules
