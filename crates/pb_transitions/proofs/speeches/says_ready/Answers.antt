use Rattle.std.proofs.Common.{rules}
use Rattle.pb_transitions.proofs.speeches.says_ready.Goals as goal

pub returns-in-Some : goal.returns-in-Some
returns-in-Some c queue = let h = c.ready_if.ensures queue in search rules
