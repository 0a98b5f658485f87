use Rattle.std.proofs.Common.{arith}
use Rattle.law_token.proofs.replies.Happen.{happen, acted_happen}
use Rattle.law_monitor.proofs.sources.Worlds.{sources_by}
use Rattle.law_monitor.proofs.runs.telegrams_name_their_speakers.Goals as goal

pub returns : goal.returns
returns c = λ p specs events new w highest run. sources_by p specs (happen events) new w (omega (arith, highest)) (acted_happen p specs events new w run)
