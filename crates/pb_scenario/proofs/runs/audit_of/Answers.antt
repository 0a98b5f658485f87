-- What the watched bus has come by is the run, and what its audit finds is what there is to find in that.
use Rattle.std.proofs.Common.{◌≡◌, Ok, map, subst}
use Rattle.law_model.specs.World.{new_world}
use Rattle.pb_taps.specs.Taps.{spec_of}
use Rattle.pb_world.specs.Watched.{world_in}
use Rattle.pb_scenario.proofs.runs.audit_of.Goals as goal

pub returns-clause-ok : goal.returns-clause-ok
returns-clause-ok c =
    let s = c.args.scenario.now.scenario in
    let start = world_in c.in-Ok.watched in
    let made : new_world s.params s.taps ≡ Ok start =
    subst (λ ts. new_world s.params ts ≡ Ok start) c.taps.ensures.specs (subst (λ p. new_world p (map spec_of c.taps.result.now) ≡ Ok start) c.params.ensures c.in-Ok.ensures.new) in
    let (events, is, came) = c.in_ok-play.ensures.played in
    let found = c.judge.ensures s.params s.taps start events made came in
    (events, is, found.0, found.1)
