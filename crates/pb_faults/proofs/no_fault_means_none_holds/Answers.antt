use Rattle.pb_faults.proofs.FirstFaults.{none_holds, none_is_found}
use Rattle.pb_faults.proofs.no_fault_means_none_holds.Goals as goal

pub returns-clause-found : goal.returns-clause-found
returns-clause-found g c = none_holds

pub returns-clause-only : goal.returns-clause-only
returns-clause-only g c = none_is_found
