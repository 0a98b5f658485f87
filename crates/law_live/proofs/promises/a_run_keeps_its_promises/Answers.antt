use Rattle.law_live.proofs.Promising.{new_begins, run_leads_on}
use Rattle.law_live.proofs.promises.a_run_keeps_its_promises.Goals as goal

pub returns-clause-new : goal.returns-clause-new
returns-clause-new c = new_begins

pub returns-clause-run : goal.returns-clause-run
returns-clause-run c = run_leads_on
