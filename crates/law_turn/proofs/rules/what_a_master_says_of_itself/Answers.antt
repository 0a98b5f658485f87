use Rattle.law_turn.proofs.Numbers.{says-not_ready, says-ready, says-in_ring, says-passive}
use Rattle.law_turn.proofs.rules.what_a_master_says_of_itself.Goals as goal

pub returns-clause-not_ready : goal.returns-clause-not_ready
returns-clause-not_ready c = says-not_ready

pub returns-clause-ready : goal.returns-clause-ready
returns-clause-ready c = says-ready

pub returns-clause-in_ring : goal.returns-clause-in_ring
returns-clause-in_ring c = says-in_ring

pub returns-clause-passive : goal.returns-clause-passive
returns-clause-passive c = says-passive
