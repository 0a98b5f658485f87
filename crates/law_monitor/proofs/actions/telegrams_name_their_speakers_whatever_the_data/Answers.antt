use Rattle.std.proofs.Common.{arith}
use Rattle.law_monitor.proofs.sources.Worlds.{sources_by}
use Rattle.law_monitor.proofs.actions.telegrams_name_their_speakers_whatever_the_data.Goals as goal

pub returns : goal.returns
returns c = λ p specs actions new w highest has. sources_by p specs actions new w (omega (arith, highest)) has
