use Rattle.std.proofs.Common.{◌≡◌, Option, subst, sym}
use Rattle.std.specs.Prelude.{IfSome}
use Rattle.pb_world.specs.Driven.{SetsReply}
use Rattle.pb_world.specs.declared.driven.Driven.{Driven}
use Rattle.pbfdl.specs.Buses.{SetsAt}
use Rattle.pbfdl.proofs.buses.fdl_bus_set_reply.Goals as goal

pub returns-clause-sets : goal.returns-clause-sets
returns-clause-sets c = λ fits.
    let unit = c.args.unit.now in
    let tap = c.args.tap in
    let r = c.set_reply.result in
    let next = c.set_reply.new.self in
    let b = c.in-Some.there.value in
    let on : SetsReply b.watched tap unit r next.watched =
    subst (λ u. SetsReply b.watched tap u r next.watched) c.copy_octets.ensures
    (subst (λ (x : Driven). SetsReply x.watched tap c.copy_octets.result.items r next.watched) c.deref_mut.ensures.value c.set_reply.ensures.sets) in
    let judge : next.judge ≡ b.judge = subst (λ (x : Driven). next.judge ≡ x.judge) c.deref_mut.ensures.value c.set_reply.ensures.judge in
    subst (λ (o : Option Driven). IfSome o (λ x. SetsAt x tap unit c.event_code-code.result c.put.new.self.value)) (sym c.in-Some.ensures.taken)
    (next, c.put.ensures, judge, r, c.event_code-code.ensures, on)
