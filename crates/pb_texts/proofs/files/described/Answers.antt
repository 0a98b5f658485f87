use Rattle.pb_scenario.specs.Files.{scenario_in}
use Rattle.pb_texts.proofs.Reading.{answers-scenario, answers-fault}
use Rattle.pb_texts.proofs.files.described.Goals as goal

pub returns-clause-scenario : goal.returns-clause-scenario
returns-clause-scenario c = answers-scenario scenario_in c.args.file.now c.read.result c.read.ensures.scenario

pub returns-clause-fault : goal.returns-clause-fault
returns-clause-fault c = answers-fault scenario_in c.args.file.now c.read.result c.read.ensures.fault
