use Rattle.law_rings.proofs.Bounded.{bounded_by}
use Rattle.law_rings.proofs.actions.a_rotation_is_bounded_whatever_the_data.Goals as goal

pub returns : goal.returns
returns c = bounded_by
