use Rattle.law_live.proofs.Acting.{never_dead_by_actions}
use Rattle.law_live.proofs.actions.the_bus_is_never_dead_whatever_the_data.Goals as goal

pub returns : goal.returns
returns c = never_dead_by_actions
