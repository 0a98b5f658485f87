-- What is played is the scenario's run.
use Rattle.std.proofs.Common.{◌≡◌, ◌∙◌, Some, length, ap, sym, subst, arith}
use Rattle.pb_scenario.specs.Walks.{WalkView}
use Rattle.pb_scenario.specs.Scenarios.{walk_of}
use Rattle.pb_scenario.specs.Plays.{GoesOn}
use Rattle.pb_world.proofs.Counting.{count-new}
use Rattle.pb_scenario.proofs.Moving.{in-err}
use Rattle.pb_scenario.proofs.PlayedInstants.{rest-begins, rest-goes, rest-ends, rest-ready, rest-stops}
use Rattle.pb_scenario.proofs.plays.play.Goals as goal

pub loop-walk-init : goal.loop-walk-init
loop-walk-init g c =
    let s = c.args.scenario.now in
    let walk = c.in-Ok.walk in
    let stage = g.S.Stage.view c.args.stage.now in
    let same : walk ≡ walk_of s = c.in-Ok.ensures.walk in
    record {
      walk = same ∙ ap (λ n. record (walk_of s) { clock = n }) (sym (ap (λ (w : WalkView). w.clock) same));
      in_time = omega (arith, ap (λ (w : WalkView). w.clock) same);
      taps = count-new s.scenario.params s.scenario.taps stage.world c.requires.new ∙ sym (ap (λ (w : WalkView). w.taps) same);
      rest = rest-begins s walk stage same c.requires.begins;
    }

pub play_instant-requires-clause-ready : goal.play_instant-requires-clause-ready
play_instant-requires-clause-ready g c =
    rest-ready c.args.scenario.now (g.S.Stage.view c.args.stage.now).world c.loop-walk.walk (g.S.Stage.view c.loop-walk.stage) c.loop-walk.invariant.rest

pub returns-in_err-at-clause-fault : goal.returns-in_err-at-clause-fault
returns-in_err-at-clause-fault g c =
    in-err _ _ c.from_residual.result c.in_err-at.field-0.0 c.from_residual.ensures.0 c.from_residual.ensures.1
    (rest-stops c.args.scenario.now (g.S.Stage.view c.args.stage.now).world c.loop-walk.walk (g.S.Stage.view c.loop-walk.stage) c.in_err-at.field-0.0 c.requires.new c.loop-walk.invariant.in_time c.in_err-at.ensures c.loop-walk.invariant.rest)

pub loop-walk-preserved : goal.loop-walk-preserved
loop-walk-preserved g c =
    let s = c.args.scenario.now in
    let walk = c.loop-walk.walk in
    let after = c.go_to.new.self in
    let old = g.S.Stage.view c.loop-walk.stage in
    let new = g.S.Stage.view c.play_instant.new.stage in
    let at = c.in-Some.at in
    let moved : after ≡ record walk { clock = at } = c.go_to.ensures in
    let goes : GoesOn walk old (Some at) new = subst (λ o. GoesOn walk old o new) c.in-Some.is c.in_ok-at.ensures in
    record {
      walk = moved ∙ ap (λ (w : WalkView). record w { clock = at }) c.loop-walk.invariant.walk ∙ ap (λ n. record (walk_of s) { clock = n }) (sym (ap (λ (w : WalkView). w.clock) moved));
      in_time = omega (arith, ap (λ (w : WalkView). w.clock) moved, ap (λ (w : WalkView). w.until) moved, goes.later.1);
      taps = goes.taps ∙ c.loop-walk.invariant.taps ∙ sym (ap (λ (w : WalkView). w.taps) moved);
      rest = rest-goes s (g.S.Stage.view c.args.stage.now).world walk after old new c.in_ok-at.field-0 at moved c.in-Some.is c.loop-walk.invariant.in_time c.in_ok-at.ensures c.loop-walk.invariant.rest;
    }

pub returns-clause-played : goal.returns-clause-played
returns-clause-played g c =
    rest-ends c.args.scenario.now (g.S.Stage.view c.args.stage.now).world c.loop-walk.walk (g.S.Stage.view c.loop-walk.stage) (g.S.Stage.view c.play_instant.new.stage) c.in_ok-at.field-0 c.requires.new
    c.in_default-2.is c.loop-walk.invariant.in_time c.in_ok-at.ensures c.loop-walk.invariant.rest
