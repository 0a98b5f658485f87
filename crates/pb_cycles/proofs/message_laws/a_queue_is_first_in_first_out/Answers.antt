use Rattle.std.proofs.Common.{[]}
use Rattle.pb_cycles.proofs.Waiting.{in_order}
use Rattle.pb_cycles.proofs.message_laws.a_queue_is_first_in_first_out.Goals as goal

pub returns : goal.returns
returns c = in_order []
