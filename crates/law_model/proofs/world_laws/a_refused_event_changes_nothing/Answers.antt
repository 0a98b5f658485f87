use Rattle.law_model.proofs.Worlds.{replay-refused}
use Rattle.law_model.proofs.world_laws.a_refused_event_changes_nothing.Goals as goal

pub returns : goal.returns
returns c = replay-refused
