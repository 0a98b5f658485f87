use Rattle.law_runs.proofs.OnTheBus.{the-events-lead}
use Rattle.law_runs.proofs.laws.the_events_of_a_run_lead_to_its_end.Goals as goal

pub returns : goal.returns
returns c = the-events-lead
