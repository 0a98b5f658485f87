use Rattle.std.proofs.Common.{◌≡◌, ◌∙◌, List, Ok, ap, map, subst}
use Rattle.law_model.specs.Medium.{TapSpec}
use Rattle.law_model.specs.World.{new_world_within}
use Rattle.pb_taps.specs.Taps.{spec_of}
use Rattle.pb_world.specs.Watched.{world_in}
use Rattle.pbfdl.specs.Buses.{tap_spec_of}
use Rattle.pbfdl.proofs.MakingBuses.{makes-bus}
use Rattle.pbfdl.proofs.buses.made_bus.Goals as goal

pub returns-in-Ok-new_within-clause-made : goal.returns-in-Ok-new_within-clause-made
returns-in-Ok-new_within-clause-made c =
    let p = c.args.params in
    let b = c.in-Ok-new_within.bus in
    let made : new_world_within c.args.entries p (map tap_spec_of c.args.taps.now) ≡ Ok (world_in b.watched) =
    subst (λ (specs : List TapSpec). new_world_within c.args.entries p specs ≡ Ok (world_in b.watched)) (ap (map spec_of) c.deref.ensures.value ∙ c.in-Ok.ensures) c.in-Ok-new_within.ensures.new in
    makes-bus (new_world_within c.args.entries p (map tap_spec_of c.args.taps.now)) b made c.in-Ok-new_within.ensures.came c.in-Ok-new_within.ensures.told
