use Rattle.std.proofs.Common.{Option, subst, sym}
use Rattle.std.specs.Prelude.{IfSome}
use Rattle.pb_cycles.specs.RequestFields.{RequestFields}
use Rattle.pb_cycles.specs.declared.services.Service.{Service}
use Rattle.law_model.specs.World as model
use Rattle.pbfdl.specs.Buses.{Meets}
use Rattle.pbfdl.specs.Calls.{request_fields}
use Rattle.pbfdl.proofs.buses.fdl_bus_queue.Goals as goal

pub returns-clause-waits : goal.returns-clause-waits
returns-clause-waits c = λ none.
    let old = c.args.bus.now.value in
    let new = c.happens.new.bus.value in
    let tap = c.args.tap in
    subst (λ (o : Option Service). IfSome o (λ s. IfSome old (λ b. Meets b (model.Queue tap (request_fields c.args.da s c.args.high c.args.unit.now)) c.happens.result new))) (sym c.in-Ok.ensures.request.0)
    (subst (λ (r : RequestFields). IfSome old (λ b. Meets b (model.Queue tap r) c.happens.result new)) c.in-Ok.ensures.request.1 c.happens.ensures.meets)
