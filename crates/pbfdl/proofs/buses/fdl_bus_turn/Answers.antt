use Rattle.std.proofs.Common.{◌≡◌, Option, subst, sym}
use Rattle.std.specs.Prelude.{IfSome}
use Rattle.law_model.specs.World.{Turn}
use Rattle.pb_world.specs.Driven.{Applies}
use Rattle.pb_world.specs.declared.driven.Driven.{Driven}
use Rattle.pbfdl.specs.Buses.{Meets}
use Rattle.pbfdl.proofs.buses.fdl_bus_turn.Goals as goal

pub returns-clause-turn : goal.returns-clause-turn
returns-clause-turn c =
    let e = Turn c.args.tap in
    let next = c.turn.new.self in
    let b = c.in-Some.there.value in
    let applies : Applies b.watched e c.turn.result next.watched = subst (λ (x : Driven). Applies x.watched e c.turn.result next.watched) c.deref_mut.ensures.value c.turn.ensures.applies in
    let judge : next.judge ≡ b.judge = subst (λ (x : Driven). next.judge ≡ x.judge) c.deref_mut.ensures.value c.turn.ensures.judge in
    subst (λ (o : Option Driven). IfSome o (λ x. Meets x e c.event_code-code.result c.put.new.self.value)) (sym c.in-Some.ensures.taken)
    (next, c.put.ensures, judge, c.turn.result, c.event_code-code.ensures, applies)
