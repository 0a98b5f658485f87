-- One tap more has turned, or its turn stops all.
use Rattle.std.proofs.Common.{◌<◌, ◌≤◌, ◌∙◌, ap, subst, length, map, arith}
use Rattle.std.specs.Prelude.{IfSome}
use Rattle.law_model.specs.World.{Turn}
use Rattle.law_turn.specs.Stations.{earlier}
use Rattle.law_runs.specs.Runs.{comes, wants}
use Rattle.pb_world.specs.Worlds.{due_at}
use Rattle.pb_scenario.specs.Walks.{plan_in}
use Rattle.pb_world.proofs.Counting.{count-all}
use Rattle.pb_scenario.proofs.Moving.{in-err, none-turned, ready-after, turned-all, turned-more, turned-stops}
use Rattle.pb_scenario.proofs.Soonest.{front-due, none-more, so-far-all, so-far-more, so-far-none}
use Rattle.pb_scenario.proofs.plays.play_turns.Goals as goal

pub loop-tap-init : goal.loop-tap-init
loop-tap-init g c =
    let walk = c.args.walk.now in
    let v = g.S.Stage.view c.args.stage.now in
    record { turned = none-turned (plan_in walk) c.args.now walk.clock v; first = so-far-none (plan_in walk) walk.clock walk.taps v.world; due = λ tap none. absurd (omega (arith, none)) }

pub play_turn-requires-clause-ready : goal.play_turn-requires-clause-ready
play_turn-requires-clause-ready g c =
    let turned = c.loop-tap.invariant.turned in
    ready-after c.args.now (g.S.Stage.view c.args.stage.now) (g.S.Stage.view c.loop-tap.stage) (map Turn turned.taps) turned.happened c.requires.ready

pub returns-in_err-due-clause-plays : goal.returns-in_err-due-clause-plays
returns-in_err-due-clause-plays g c =
    let walk = c.args.walk.now in
    let old = g.S.Stage.view c.args.stage.now in
    let mid = g.S.Stage.view c.loop-tap.stage in
    let turned = c.loop-tap.invariant.turned in
    let same = count-all c.args.now (map Turn turned.taps) old.world mid.world turned.happened.world in
    let there : c.loop-tap.tap < length mid.world.taps = omega (arith, c.loop-tap-test.true, c.taps-tap-end.ensures, c.requires.taps, same) in
    in-err _ _ c.from_residual.result c.in_err-due.field-0.0 c.from_residual.ensures.0 c.from_residual.ensures.1
    (turned-stops (plan_in walk) c.args.now walk.clock c.loop-tap.tap old mid c.in_err-due.field-0.0 turned there c.in_err-due.ensures.plays)

pub loop-tap-preserved : goal.loop-tap-preserved
loop-tap-preserved g c =
    let walk = c.args.walk.now in
    let p = plan_in walk in
    let old = g.S.Stage.view c.args.stage.now in
    let mid = g.S.Stage.view c.loop-tap.stage in
    let new = g.S.Stage.view c.play_turn.new.stage in
    let tap = c.loop-tap.tap in
    let turned = c.loop-tap.invariant.turned in
    let one = c.in_ok-due.ensures.plays in
    let same = count-all c.args.now (map Turn turned.taps) old.world mid.world turned.happened.world in
    let there : tap < length mid.world.taps = omega (arith, c.loop-tap-test.true, c.taps-tap-end.ensures, c.requires.taps, same) in
    record {
      turned = turned-more p c.args.now walk.clock tap old mid new turned there one;
      first = so-far-more p walk.clock walk.taps tap mid.world new.world c.loop-tap.first c.sooner-first.result (omega (arith, c.loop-tap-test.true, c.taps-tap-end.ensures))
          (front-due c.args.now tap (wants p walk.clock tap (due_at mid.world tap)) mid.world new.world one.world)
          (c.sooner-first.ensures ∙ ap (λ o. earlier c.loop-tap.first (comes p walk.clock tap o)) c.in_ok-due.ensures.due) c.loop-tap.invariant.first;
      due = none-more tap c.loop-tap.soonest c.no_later-soonest.result mid.world new.world (front-due c.args.now tap (wants p walk.clock tap (due_at mid.world tap)) mid.world new.world one.world)
          c.no_later-soonest.ensures.bound (subst (λ o. IfSome o (λ at. c.no_later-soonest.result ≤ at)) c.in_ok-due.ensures.due c.no_later-soonest.ensures.due) c.loop-tap.invariant.due;
    }

pub returns-clause-plays : goal.returns-clause-plays
returns-clause-plays g c =
    let walk = c.args.walk.now in
    turned-all (plan_in walk) c.args.now walk.clock c.loop-tap.tap (g.S.Stage.view c.args.stage.now) (g.S.Stage.view c.loop-tap.stage) c.loop-tap.invariant.turned
    (omega (arith, c.loop-tap-test.false, c.taps-tap-end.ensures, c.requires.taps))

pub returns-clause-first : goal.returns-clause-first
returns-clause-first g c =
    let walk = c.args.walk.now in
    let old = g.S.Stage.view c.args.stage.now in
    let new = g.S.Stage.view c.loop-tap.stage in
    let turned = c.loop-tap.invariant.turned in
    let same = count-all c.args.now (map Turn turned.taps) old.world new.world turned.happened.world in
    so-far-all (plan_in walk) walk.clock walk.taps c.loop-tap.tap new.world c.loop-tap.first (omega (arith, c.loop-tap-test.false, c.taps-tap-end.ensures)) (same ∙ c.requires.taps)
    c.loop-tap.invariant.first

pub returns-clause-due : goal.returns-clause-due
returns-clause-due g c = λ tap there.
    let walk = c.args.walk.now in
    let old = g.S.Stage.view c.args.stage.now in
    let new = g.S.Stage.view c.loop-tap.stage in
    let turned = c.loop-tap.invariant.turned in
    let same = count-all c.args.now (map Turn turned.taps) old.world new.world turned.happened.world in
    c.loop-tap.invariant.due tap (omega (arith, there, same, c.requires.taps, c.loop-tap-test.false, c.taps-tap-end.ensures))
