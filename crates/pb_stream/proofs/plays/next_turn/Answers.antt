-- One tap more is looked at.
use Rattle.std.proofs.Common.{◌≡◌, ◌<◌, ◌∙◌, length, ap, arith}
use Rattle.law_turn.specs.Stations.{earlier}
use Rattle.law_runs.specs.Runs.{comes}
use Rattle.pb_world.specs.Buses.{world_of}
use Rattle.pb_world.specs.Worlds.{due_at}
use Rattle.pb_world.specs.declared.buses.Bus.{Bus}
use Rattle.pb_scenario.specs.Walks.{plan_in}
use Rattle.pb_world.proofs.Instants.{sooner-all, sooner-more}
use Rattle.pb_stream.proofs.plays.next_turn.Goals as goal

pub loop-tap-preserved : goal.loop-tap-preserved
loop-tap-preserved g c =
    let walk = c.args.walk.now in
    let bus = (g.S.Stage.view c.args.stage.now).bus in
    let w = world_of bus in
    let there : c.loop-tap.tap < length w.taps = omega (arith, c.loop-tap-test.true, c.taps-tap-end.ensures, c.requires.taps) in
    let due : c.due.result ≡ due_at w c.loop-tap.tap = c.due.ensures ∙ ap (λ (b : Bus). due_at (world_of b) c.loop-tap.tap) c.bus.ensures.bus in
    sooner-more (plan_in walk) walk.clock w c.loop-tap.tap c.loop-tap.first c.sooner-first.result _ there
    (c.sooner-first.ensures ∙ ap (λ d. earlier c.loop-tap.first (comes (plan_in walk) walk.clock c.loop-tap.tap d)) due) c.loop-tap.invariant

pub returns : goal.returns
returns g c =
    let walk = c.args.walk.now in
    sooner-all (plan_in walk) walk.clock (world_of (g.S.Stage.view c.args.stage.now).bus) c.loop-tap.tap c.loop-tap.first _
    (omega (arith, c.loop-tap-test.false, c.taps-tap-end.ensures, c.requires.taps)) c.loop-tap.invariant
