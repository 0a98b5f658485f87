use Rattle.std.proofs.Common.{Option, refl, subst, sym, ◌≡◌}
use Rattle.std.specs.Prelude.{IfSome}
use Rattle.pb_world.specs.Driven.{Forgets, StaysBut}
use Rattle.pb_world.specs.declared.driven.Driven.{Driven}
use Rattle.pbfdl.specs.BusIndications.{ForgetsAt}
use Rattle.pbfdl.proofs.bus_indications.fdl_bus_forget_indications.Goals as goal

pub returns-clause-forgets : goal.returns-clause-forgets
returns-clause-forgets c =
    let next = c.forget_indications.new.self in
    let tap = c.args.tap in
    let b = c.in-Some.there.value in
    let e = c.forget_indications.ensures in
    let judge : next.judge ≡ b.judge = subst (λ (x : Driven). next.judge ≡ x.judge) c.deref_mut.ensures.value e.judge in
    let stays : StaysBut b.watched next.watched = subst (λ (x : Driven). StaysBut x.watched next.watched) c.deref_mut.ensures.value e.same in
    let forgets : Forgets b.watched tap next.watched = subst (λ (x : Driven). Forgets x.watched tap next.watched) c.deref_mut.ensures.value e.forgets in
    subst (λ (o : Option Driven). IfSome o (λ x. (0 ≡ 0) × ForgetsAt x tap c.put.new.self.value)) (sym c.in-Some.ensures.taken)
    (refl, (next, c.put.ensures, judge, stays, forgets))
