use Rattle.std.proofs.Common.{rules}
use Rattle.pb_transitions.proofs.timers.given_up.Goals as goal

pub returns : goal.returns
returns c queue = let h = c.give_up.ensures queue in search rules
