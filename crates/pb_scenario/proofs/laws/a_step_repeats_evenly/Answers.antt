-- By how often it still happens.
use Rattle.pb_scenario.proofs.SameFiles.{happens-after-each}
use Rattle.pb_scenario.proofs.laws.a_step_repeats_evenly.Goals as goal

pub returns : goal.returns
returns c = happens-after-each
