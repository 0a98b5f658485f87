use Rattle.std.proofs.Common.{arith, ap, refl}
use Rattle.pb_world.specs.declared.buses.Bus.{Bus}
use Rattle.pbfdl.proofs.Told.{ran-by, runs-free}
use Rattle.pbfdl.proofs.buses.run_to.Goals as goal

pub returns : goal.returns
returns c =
    let b = c.args.bus.now in
    let next = c.run.new.self in
    runs-free b c.args.until _ _ (omega (arith, c.if-until-get.false, c.get.ensures.value, ap (λ (x : Bus). x.now) c.bus.ensures.bus)) (omega (arith, c.if-until-gt-LAST_CLOCK.false))
    (next, refl, c.run.ensures.judge, c.run.result, c.event_code.ensures, ran-by b.watched next.watched c.args.until c.run.result c.run.ensures.run c.run.ensures.fault)
