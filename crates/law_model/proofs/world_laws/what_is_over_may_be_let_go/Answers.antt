use Rattle.std.proofs.Common.{slice_get}
use Rattle.law_model.proofs.Behind.{pass-behind, turn-behind}
use Rattle.law_model.proofs.world_laws.what_is_over_may_be_let_go.Goals as goal

pub returns-clause-turn : goal.returns-clause-turn
returns-clause-turn c = λ old w tap past. turn-behind old w tap (slice_get w.taps tap) past

pub returns-clause-pass : goal.returns-clause-pass
returns-clause-pass c = λ old w d past. pass-behind old w d past
