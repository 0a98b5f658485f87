use Rattle.std.proofs.Common.{refl, subst, sym}
use Rattle.std.specs.Prelude.{IsSome}
use Rattle.pb_world.specs.Driven.{Applies}
use Rattle.pb_world.specs.Premises.{time_in}
use Rattle.pb_world.proofs.driven.pass.Goals as goal

pub apply_pass-requires-clause-pass : goal.apply_pass-requires-clause-pass
apply_pass-requires-clause-pass c = subst (λ e. IsSome (time_in e)) (sym c.set_pass.ensures) refl

pub returns-clause-applies : goal.returns-clause-applies
returns-clause-applies c =
    subst (λ e. Applies c.args.watched.now e c.apply_pass.result c.apply_pass.new.watched) c.set_pass.ensures c.apply_pass.ensures.applies
