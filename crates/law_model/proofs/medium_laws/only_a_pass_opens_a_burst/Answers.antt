use Rattle.law_model.proofs.Sensed.{open-started, open-with_entry, open-cut, open-longer, open-lost}
use Rattle.law_model.proofs.medium_laws.only_a_pass_opens_a_burst.Goals as goal

pub returns-clause-started : goal.returns-clause-started
returns-clause-started c = open-started

pub returns-clause-begun : goal.returns-clause-begun
returns-clause-begun c = open-with_entry

pub returns-clause-stopped : goal.returns-clause-stopped
returns-clause-stopped c = open-cut

pub returns-clause-longer : goal.returns-clause-longer
returns-clause-longer c = open-longer

pub returns-clause-lost : goal.returns-clause-lost
returns-clause-lost c = open-lost
