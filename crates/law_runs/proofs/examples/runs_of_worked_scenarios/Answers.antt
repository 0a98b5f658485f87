-- By computing.
use Rattle.std.proofs.Common.{refl}
use Rattle.law_runs.specs.Runs.{run}
use Rattle.law_runs.proofs.examples.runs_of_worked_scenarios.Goals as goal

pub returns-clause-ring : goal.returns-clause-ring
unfolding run
returns-clause-ring c = refl

pub returns-clause-noise : goal.returns-clause-noise
unfolding run
returns-clause-noise c = refl

pub returns-clause-claims : goal.returns-clause-claims
unfolding run
returns-clause-claims c = refl

pub returns-clause-held : goal.returns-clause-held
unfolding run
returns-clause-held c = refl

pub returns-clause-less : goal.returns-clause-less
unfolding run
returns-clause-less c = refl

pub returns-clause-held_back : goal.returns-clause-held_back
unfolding run
returns-clause-held_back c = refl

pub returns-clause-longest : goal.returns-clause-longest
unfolding run
returns-clause-longest c = refl

pub returns-clause-for_nothing : goal.returns-clause-for_nothing
unfolding run
returns-clause-for_nothing c = refl

pub returns-clause-starts_amid : goal.returns-clause-starts_amid
unfolding run
returns-clause-starts_amid c = refl

pub returns-clause-unheard : goal.returns-clause-unheard
unfolding run
returns-clause-unheard c = refl
