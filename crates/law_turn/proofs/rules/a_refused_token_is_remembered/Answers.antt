use Rattle.law_turn.proofs.Numbers.{refused-remembered, offered-again}
use Rattle.law_turn.proofs.rules.a_refused_token_is_remembered.Goals as goal

pub returns-clause-refused : goal.returns-clause-refused
returns-clause-refused c = refused-remembered

pub returns-clause-offered_again : goal.returns-clause-offered_again
returns-clause-offered_again c = offered-again
