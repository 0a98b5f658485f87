use Rattle.law_turn.proofs.Saying.{due-token_passed, due-asked, due-requested}
use Rattle.law_turn.proofs.laws.a_slot_counts_from_the_end.Goals as goal

pub returns-clause-checking : goal.returns-clause-checking
returns-clause-checking c = due-token_passed

pub returns-clause-asking : goal.returns-clause-asking
returns-clause-asking c = due-asked

pub returns-clause-requesting : goal.returns-clause-requesting
returns-clause-requesting c = due-requested
