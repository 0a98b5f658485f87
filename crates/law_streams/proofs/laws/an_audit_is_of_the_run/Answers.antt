use Rattle.law_streams.proofs.Audited.{audit-is-of-run}
use Rattle.law_streams.proofs.laws.an_audit_is_of_the_run.Goals as goal

pub returns : goal.returns
returns c = audit-is-of-run
