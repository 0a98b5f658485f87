use Rattle.std.proofs.Common.{◌≡◌, Option, subst, sym}
use Rattle.std.specs.Prelude.{IfSome}
use Rattle.pb_taps.specs.Events.{event_of}
use Rattle.pb_world.specs.Driven.{Applies}
use Rattle.pb_world.specs.declared.driven.Driven.{Driven}
use Rattle.pbfdl.specs.Buses.{Meets}
use Rattle.pbfdl.proofs.buses.happens.Goals as goal

pub returns-clause-meets : goal.returns-clause-meets
returns-clause-meets c =
    let e = event_of c.args.event.now in
    let next = c.apply.new.self in
    let b = c.in-Some.there.value in
    let applies : Applies b.watched e c.apply.result next.watched = subst (λ (x : Driven). Applies x.watched e c.apply.result next.watched) c.deref_mut.ensures.value c.apply.ensures.applies in
    let judge : next.judge ≡ b.judge = subst (λ (x : Driven). next.judge ≡ x.judge) c.deref_mut.ensures.value c.apply.ensures.judge in
    subst (λ (o : Option Driven). IfSome o (λ x. Meets x e c.event_code-code.result c.put.new.self.value)) (sym c.in-Some.ensures.taken)
    (next, c.put.ensures, judge, c.apply.result, c.event_code-code.ensures, applies)
