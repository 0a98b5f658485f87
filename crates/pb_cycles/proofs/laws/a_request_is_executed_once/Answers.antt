use Rattle.pb_cycles.proofs.Linking.{executed-once}
use Rattle.pb_cycles.proofs.laws.a_request_is_executed_once.Goals as goal

pub returns : goal.returns
returns c = executed-once
