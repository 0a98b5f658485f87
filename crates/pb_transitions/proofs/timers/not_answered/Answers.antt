use Rattle.std.proofs.Common.{rules}
use Rattle.pb_transitions.proofs.timers.not_answered.Goals as goal

pub returns-then-not-retry_left : goal.returns-then-not-retry_left
returns-then-not-retry_left c queue = let h = c.given_up.ensures queue in search rules
