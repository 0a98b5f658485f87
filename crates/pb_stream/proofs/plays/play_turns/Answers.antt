-- One tap more has turned, or its turn stops all.
use Rattle.std.proofs.Common.{◌<◌, ◌∙◌, ap, arith, refl, sym}
use Rattle.law_turn.specs.Stations.{earlier}
use Rattle.law_runs.specs.Runs.{comes, wants}
use Rattle.pb_world.specs.Buses.{world_of}
use Rattle.pb_world.specs.Worlds.{due_at}
use Rattle.pb_scenario.specs.Walks.{plan_in}
use Rattle.pb_scenario.proofs.Moving.{in-err}
use Rattle.pb_scenario.proofs.Soonest.{so-far-all, so-far-more, so-far-none}
use Rattle.pb_stream.proofs.Playing.{all-left, turn-agrees, turn-more, turns-played, turns-refused}
use Rattle.pb_stream.proofs.plays.play_turns.Goals as goal

pub loop-tap-init : goal.loop-tap-init
loop-tap-init g c =
    let walk = c.args.walk.now in
    record { first = λ old course from. so-far-none (plan_in walk) walk.clock walk.taps (world_of (g.S.Stage.view c.args.stage.now).bus); left = λ old course from. all-left (plan_in walk) walk.clock walk.taps old course (g.S.Stage.view c.args.stage.now) from; ready = c.requires.ready; taps = refl }

pub loop-tap-preserved : goal.loop-tap-preserved
loop-tap-preserved g c =
    let walk = c.args.walk.now in
    let less : c.loop-tap.tap < walk.taps = omega (arith, c.loop-tap-test.true, c.taps-tap-end.ensures) in
    let v = g.S.Stage.view c.loop-tap.stage in
    let new = g.S.Stage.view c.play_turn.new.stage in
    let p = plan_in walk in
    let tap = c.loop-tap.tap in
    record {
      first = λ old course from.
          let (d, here, left) = c.loop-tap.invariant.left old course from in
          so-far-more p walk.clock walk.taps tap (world_of v.bus) (world_of new.bus) c.loop-tap.first c.sooner-first.result less
          (turn-agrees walk.clock tap old d v new (wants p walk.clock tap (due_at (world_of v.bus) tap)) here.at (c.in_ok-due.ensures.plays walk.clock old d here))
          (c.sooner-first.ensures ∙ ap (λ o. earlier c.loop-tap.first (comes p walk.clock tap o)) c.in_ok-due.ensures.due) (c.loop-tap.invariant.first old course from);
      left = λ old course from. turn-more (plan_in walk) walk.clock walk.taps c.loop-tap.tap old course (g.S.Stage.view c.loop-tap.stage) (g.S.Stage.view c.play_turn.new.stage)
          less (c.loop-tap.invariant.left old course from) c.in_ok-due.ensures.plays;
      ready = c.in_ok-due.ensures.ready;
      taps = c.in_ok-due.ensures.taps ∙ c.loop-tap.invariant.taps;
    }

pub returns-in_err-due-clause-plays : goal.returns-in_err-due-clause-plays
returns-in_err-due-clause-plays g c =
    let walk = c.args.walk.now in
    let less : c.loop-tap.tap < walk.taps = omega (arith, c.loop-tap-test.true, c.taps-tap-end.ensures) in
    λ old course from. in-err _ _ c.from_residual.result c.in_err-due.field-0.0 c.from_residual.ensures.0 c.from_residual.ensures.1
    (turns-refused (plan_in walk) walk.clock walk.taps c.loop-tap.tap old course (g.S.Stage.view c.args.stage.now) (g.S.Stage.view c.loop-tap.stage) (g.S.Stage.view c.play_turn.new.stage)
    c.in_err-due.field-0.0 from.at (sym c.requires.taps) less (c.loop-tap.invariant.left old course from) c.in_err-due.ensures.plays)

pub returns-clause-first : goal.returns-clause-first
returns-clause-first g c =
    let walk = c.args.walk.now in
    let w = world_of (g.S.Stage.view c.loop-tap.stage).bus in
    λ old course from. so-far-all (plan_in walk) walk.clock walk.taps c.loop-tap.tap w c.loop-tap.first (omega (arith, c.loop-tap-test.false, c.taps-tap-end.ensures))
    (c.loop-tap.invariant.taps ∙ c.requires.taps) (c.loop-tap.invariant.first old course from)

pub returns-clause-plays : goal.returns-clause-plays
returns-clause-plays g c =
    let walk = c.args.walk.now in
    λ old course from. turns-played (plan_in walk) walk.clock walk.taps c.loop-tap.tap old course (g.S.Stage.view c.args.stage.now) (g.S.Stage.view c.loop-tap.stage) from.at (sym c.requires.taps)
    (omega (arith, c.loop-tap-test.false, c.taps-tap-end.ensures)) (c.loop-tap.invariant.left old course from)
