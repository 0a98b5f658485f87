-- By computing.
use Rattle.std.proofs.Common.{refl}
use Rattle.law_runs.specs.Runs.{run}
use Rattle.law_runs.proofs.examples.events_of_worked_scenarios.Goals as goal

pub returns-clause-claim : goal.returns-clause-claim
unfolding run
returns-clause-claim c = refl

pub returns-clause-together : goal.returns-clause-together
unfolding run
returns-clause-together c = refl

pub returns-clause-held : goal.returns-clause-held
unfolding run
returns-clause-held c = refl

pub returns-clause-end : goal.returns-clause-end
unfolding run
returns-clause-end c = refl

pub returns-clause-losses_last : goal.returns-clause-losses_last
unfolding run
returns-clause-losses_last c = refl

pub returns-clause-refused : goal.returns-clause-refused
unfolding run
returns-clause-refused c = refl

pub returns-clause-no_world : goal.returns-clause-no_world
unfolding run
returns-clause-no_world c = refl
