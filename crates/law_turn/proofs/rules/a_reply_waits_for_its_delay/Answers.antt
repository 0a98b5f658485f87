use Rattle.law_turn.proofs.Requesting.{ready-answer_to, ready-listening}
use Rattle.law_turn.proofs.rules.a_reply_waits_for_its_delay.Goals as goal

pub returns-clause-answer : goal.returns-clause-answer
returns-clause-answer c = ready-answer_to

pub returns-clause-listening : goal.returns-clause-listening
returns-clause-listening c = ready-listening
