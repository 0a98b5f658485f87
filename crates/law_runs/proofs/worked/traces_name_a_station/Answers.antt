-- each clause computes; a false one is refused at once
use Rattle.std.proofs.Common.{refl}
use Rattle.law_runs.proofs.worked.traces_name_a_station.Goals as goal

pub returns-clause-holder : goal.returns-clause-holder
returns-clause-holder c = refl

pub returns-clause-offered : goal.returns-clause-offered
returns-clause-offered c = refl

pub returns-clause-taken : goal.returns-clause-taken
returns-clause-taken c = refl

pub returns-clause-answered : goal.returns-clause-answered
returns-clause-answered c = refl

pub returns-clause-lost : goal.returns-clause-lost
returns-clause-lost c = refl

pub returns-clause-disturbed : goal.returns-clause-disturbed
returns-clause-disturbed c = refl
