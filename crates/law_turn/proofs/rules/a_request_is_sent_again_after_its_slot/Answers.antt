use Rattle.law_turn.proofs.Requesting.{slot-waits, slot-again}
use Rattle.law_turn.proofs.rules.a_request_is_sent_again_after_its_slot.Goals as goal

pub returns-clause-waits : goal.returns-clause-waits
returns-clause-waits c = slot-waits

pub returns-clause-again : goal.returns-clause-again
returns-clause-again c = slot-again
