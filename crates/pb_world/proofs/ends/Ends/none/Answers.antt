use Rattle.std.proofs.Common.{refl, arith}
use Rattle.pb_world.proofs.Legal.{no-ends}
use Rattle.pb_world.proofs.ends.Ends.none.Goals as goal

pub returns : goal.returns
returns c = λ delay moment. no-ends delay moment _ refl (omega (arith, c.min.ensures)) refl
