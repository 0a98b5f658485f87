use Rattle.law_rings.proofs.Bounded.{bounded_rotation}
use Rattle.law_rings.proofs.theorem.a_rotation_is_bounded.Goals as goal

pub returns : goal.returns
returns c = bounded_rotation
