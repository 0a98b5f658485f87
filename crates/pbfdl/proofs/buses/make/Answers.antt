-- A new bus, at a handle that is empty.
use Rattle.std.proofs.Common.{◌≡◌, ℕ, map, Option, None, subst, sym}
use Rattle.std.specs.Prelude.{MatchOption}
use Rattle.law_model.specs.World.{new_world_within}
use Rattle.pb_world.specs.declared.driven.Driven.{Driven}
use Rattle.pbfdl.specs.Buses.{Makes, MakesWithin, tap_spec_of}
use Rattle.pbfdl.specs.Calls.{params_of}
use Rattle.pbfdl.proofs.buses.make.Goals as goal

pub returns-in-Ok-clause-made : goal.returns-in-Ok-clause-made
returns-in-Ok-clause-made c =
    let limit = c.args.entries in
    let p = params_of c.args.params.now in
    let taps = c.args.taps.now in
    let new = c.put-in-Ok.new.self.value in
    let r = new_world_within limit p (map tap_spec_of taps) in
    subst (λ (o : Option Driven). MakesWithin limit p taps o 0 new) (sym c.in_default.ensures.taken)
    (subst (λ (o : Option ℕ). MatchOption o (Makes r 0 new) (λ first. let made : ℕ = 0 in made ≡ first)) (sym c.in-Ok.ensures.made.0)
    (subst (λ (o : Option Driven). Makes r 0 o) (sym c.put-in-Ok.ensures) c.in-Ok.ensures.made.1))

pub returns-in-Err-clause-made : goal.returns-in-Err-clause-made
returns-in-Err-clause-made c =
    let limit = c.args.entries in
    let p = params_of c.args.params.now in
    let taps = c.args.taps.now in
    let code = c.in-Err.code in
    subst (λ (o : Option Driven). MakesWithin limit p taps o code c.take.new.self.value) (sym c.in_default.ensures.taken)
    (subst (λ (o : Option Driven). MakesWithin limit p taps None code o) (sym c.in_default.ensures.left) c.in-Err.ensures.fault.1)
