use Rattle.law_token.proofs.air.Damage.{damage_invariant}
use Rattle.law_token.proofs.events.damage_keeps_the_invariant.Goals as goal

pub returns : goal.returns
returns c = damage_invariant
