use Rattle.law_turn.proofs.Noting.{end-damage, end-acknowledgement}
use Rattle.law_turn.proofs.activity.what_is_no_telegram_tells_nothing.Goals as goal

pub returns-clause-damage : goal.returns-clause-damage
returns-clause-damage c = end-damage

pub returns-clause-acknowledgement : goal.returns-clause-acknowledgement
returns-clause-acknowledgement c = end-acknowledgement
