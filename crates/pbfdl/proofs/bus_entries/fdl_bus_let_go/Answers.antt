-- What is over is gone from the bus of the handle.
use Rattle.std.proofs.Common.{Option, Some, subst, sym}
use Rattle.std.specs.Prelude.{IfSome}
use Rattle.pb_world.specs.declared.driven.Driven.{Driven}
use Rattle.pbfdl.specs.Buses.{LetsGoAt}
use Rattle.pbfdl.proofs.bus_entries.fdl_bus_let_go.Goals as goal

pub returns-clause-gone : goal.returns-clause-gone
returns-clause-gone c =
    let code = c.let_go-code.result in
    let before = c.args.count.now in
    let count = c.let_go-code.new.count in
    let next = c.let_go-code.new.bus in
    let new = c.put.new.self.value in
    let b = c.in-Some.there.value in
    subst (λ (o : Option Driven). IfSome o (λ x. LetsGoAt x code before count new)) (sym c.in-Some.ensures.taken)
    (subst (λ (o : Option Driven). LetsGoAt b code before count o) (sym c.put.ensures)
    (subst (λ (x : Driven). LetsGoAt x code before count (Some next)) c.deref_mut.ensures.value c.let_go-code.ensures))
