-- The audit of the bus of the handle is told.
use Rattle.std.proofs.Common.{Option, subst, sym}
use Rattle.std.specs.Prelude.{IfSome}
use Rattle.pb_world.specs.declared.driven.Driven.{Driven}
use Rattle.pbfdl.specs.BusReadings.{AuditsAt}
use Rattle.pbfdl.proofs.bus_entries.fdl_bus_audit.Goals as goal

pub returns-clause-audit : goal.returns-clause-audit
returns-clause-audit c =
    let code = c.tell_audit-code.result in
    let before = c.args.told.now in
    let told = c.tell_audit-code.new.told in
    subst (λ (o : Option Driven). IfSome o (λ b. AuditsAt b code before told)) (sym c.in-Some.ensures.taken)
    (subst (λ (b : Driven). AuditsAt b code before told) c.deref.ensures c.tell_audit-code.ensures)
