use Rattle.law_live.proofs.Acting.{new_acts, actions_lead_on}
use Rattle.law_live.proofs.actions.actions_keep_their_promises.Goals as goal

pub returns-clause-new : goal.returns-clause-new
returns-clause-new c = new_acts

pub returns-clause-lead : goal.returns-clause-lead
returns-clause-lead c = actions_lead_on
