use Rattle.law_model.proofs.Worlds.{later-replay}
use Rattle.law_model.proofs.world_laws.the_clock_never_falls.Goals as goal

pub returns : goal.returns
returns c = later-replay
