-- each clause computes; a false one is refused at once
use Rattle.std.proofs.Common.{refl}
use Rattle.law_runs.proofs.worked.scenarios_that_keep_the_premises.Goals as goal

pub returns-clause-alone : goal.returns-clause-alone
returns-clause-alone c = refl

pub returns-clause-ring : goal.returns-clause-ring
returns-clause-ring c = refl

pub returns-clause-damage : goal.returns-clause-damage
returns-clause-damage c = refl

pub returns-clause-stop : goal.returns-clause-stop
returns-clause-stop c = refl

pub returns-clause-noise : goal.returns-clause-noise
returns-clause-noise c = refl

pub returns-clause-noise_between : goal.returns-clause-noise_between
returns-clause-noise_between c = refl

pub returns-clause-at_the_lag : goal.returns-clause-at_the_lag
returns-clause-at_the_lag c = refl

pub returns-clause-successor_gone : goal.returns-clause-successor_gone
returns-clause-successor_gone c = refl

pub returns-clause-namesake_stopped : goal.returns-clause-namesake_stopped
returns-clause-namesake_stopped c = refl

pub returns-clause-started : goal.returns-clause-started
returns-clause-started c = refl

pub returns-clause-stopped : goal.returns-clause-stopped
returns-clause-stopped c = refl

pub returns-clause-passive : goal.returns-clause-passive
returns-clause-passive c = refl

pub returns-clause-refused : goal.returns-clause-refused
returns-clause-refused c = refl

pub returns-clause-delay : goal.returns-clause-delay
returns-clause-delay c = refl

pub returns-clause-waits_out_next : goal.returns-clause-waits_out_next
returns-clause-waits_out_next c = refl
