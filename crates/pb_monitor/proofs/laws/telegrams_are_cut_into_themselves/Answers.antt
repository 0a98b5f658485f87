use Rattle.pb_monitor.proofs.CutStreams.{telegrams_are_cut}
use Rattle.pb_monitor.proofs.laws.telegrams_are_cut_into_themselves.Goals as goal

pub returns : goal.returns
returns c = telegrams_are_cut
