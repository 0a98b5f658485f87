-- the clause computes; a false one is refused at once
use Rattle.std.proofs.Common.{refl}
use Rattle.law_live.specs.NeverDead.{tries}
use Rattle.law_rings.proofs.examples.the_bound_is_almost_reached.Goals as goal

pub returns : goal.returns
unfolding tries
returns c = refl
