use Rattle.pb_faults.proofs.FirstFaults.{is_first, first_is_found}
use Rattle.pb_faults.proofs.first_fault_is_first.Goals as goal

pub returns-clause-found : goal.returns-clause-found
returns-clause-found g c = is_first

pub returns-clause-only : goal.returns-clause-only
returns-clause-only g c = first_is_found
