use Rattle.pb_tokenfsm.proofs.Seen.{seen-alike}
use Rattle.pb_tokenfsm.proofs.laws.states_seen_alike_are_equal.Goals as goal

pub returns : goal.returns
returns c = seen-alike
