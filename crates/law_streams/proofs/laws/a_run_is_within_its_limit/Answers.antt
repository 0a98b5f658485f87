use Rattle.std.proofs.Common.{refl}
use Rattle.law_streams.proofs.laws.a_run_is_within_its_limit.Goals as goal

pub returns : goal.returns
returns c = λ s. (refl, refl)
