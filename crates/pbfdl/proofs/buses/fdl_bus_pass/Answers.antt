use Rattle.std.proofs.Common.{◌≡◌, Option, subst, sym}
use Rattle.std.specs.Prelude.{IfSome}
use Rattle.law_model.specs.World.{Pass}
use Rattle.pb_world.specs.Driven.{Applies}
use Rattle.pb_world.specs.declared.driven.Driven.{Driven}
use Rattle.pbfdl.specs.Buses.{Meets}
use Rattle.pbfdl.proofs.buses.fdl_bus_pass.Goals as goal

pub returns-clause-passes : goal.returns-clause-passes
returns-clause-passes c =
    let e = Pass c.args.bits in
    let next = c.pass.new.self in
    let b = c.in-Some.there.value in
    let applies : Applies b.watched e c.pass.result next.watched = subst (λ (x : Driven). Applies x.watched e c.pass.result next.watched) c.deref_mut.ensures.value c.pass.ensures.applies in
    let judge : next.judge ≡ b.judge = subst (λ (x : Driven). next.judge ≡ x.judge) c.deref_mut.ensures.value c.pass.ensures.judge in
    subst (λ (o : Option Driven). IfSome o (λ x. Meets x e c.event_code-code.result c.put.new.self.value)) (sym c.in-Some.ensures.taken)
    (next, c.put.ensures, judge, c.pass.result, c.event_code-code.ensures, applies)
