use Rattle.law_token.proofs.bus.NewWorlds.{new_invariant}
use Rattle.law_token.proofs.events.a_new_world_has_the_invariant.Goals as goal

pub returns : goal.returns
returns c = new_invariant
