use Rattle.std.proofs.Common.{rules}
use Rattle.pb_transitions.proofs.hearing.awaiting_status_hears.Goals as goal

pub returns-in-Some-Token : goal.returns-in-Some-Token
returns-in-Some-Token c queue = let h = c.token_lost.ensures queue in search rules

pub returns-in-None : goal.returns-in-None
returns-in-None c queue = let h = c.not_replied.ensures queue in search rules
