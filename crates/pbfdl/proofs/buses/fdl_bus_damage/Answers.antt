use Rattle.std.proofs.Common.{ℕ, Option, subst}
use Rattle.std.specs.Prelude.{IfSome}
use Rattle.law_model.specs.World as model
use Rattle.pbfdl.specs.Buses.{Meets}
use Rattle.pbfdl.proofs.buses.fdl_bus_damage.Goals as goal

pub returns-clause-damages : goal.returns-clause-damages
returns-clause-damages c =
    subst (λ (place : Option ℕ). IfSome c.args.bus.now.value (λ b. Meets b (model.Damage c.args.tap c.args.speaker place) c.happens.result c.happens.new.bus.value)) c.place_of-place.ensures c.happens.ensures.meets
