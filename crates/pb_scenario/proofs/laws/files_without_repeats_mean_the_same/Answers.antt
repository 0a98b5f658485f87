-- Another version than 3 is read as ever, and steps that do not repeat happen once.
use Rattle.pb_scenario.proofs.SameFiles.{reads-same, refuses-same, unrolls-same}
use Rattle.pb_scenario.proofs.laws.files_without_repeats_mean_the_same.Goals as goal

pub returns-clause-read : goal.returns-clause-read
returns-clause-read c = reads-same

pub returns-clause-refused : goal.returns-clause-refused
returns-clause-refused c = refuses-same

pub returns-clause-steps : goal.returns-clause-steps
returns-clause-steps c = unrolls-same
