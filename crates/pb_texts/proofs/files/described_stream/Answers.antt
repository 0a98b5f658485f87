use Rattle.pb_scenario.specs.StreamFiles.{stream_in}
use Rattle.pb_texts.proofs.Reading.{answers-scenario, answers-fault}
use Rattle.pb_texts.proofs.files.described_stream.Goals as goal

pub returns-clause-scenario : goal.returns-clause-scenario
returns-clause-scenario c = answers-scenario stream_in c.args.file.now c.read_stream.result c.read_stream.ensures.scenario

pub returns-clause-fault : goal.returns-clause-fault
returns-clause-fault c = answers-fault stream_in c.args.file.now c.read_stream.result c.read_stream.ensures.fault
